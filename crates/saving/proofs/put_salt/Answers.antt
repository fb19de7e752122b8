-- The count, and the salt's bytes behind it.
use Rattle.saving.proofs.Putting.{salt_put}
use Rattle.saving.proofs.put_salt.Goals as goal

pub returns : goal.returns
returns c =
    let a = c.args in
    salt_put a.out.now a.family a.salt c.salt_bytes-count.ensures c.part.ensures c.put_number.ensures c.put_bytes.ensures
