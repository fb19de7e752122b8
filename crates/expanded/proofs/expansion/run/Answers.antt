-- a call of `linear` with the numbers of g, which the match told to be the family f; k is the code's count of f's words
use mathlib.Core.Path.{◌≡◌, sym, ◌∙◌}
use mathlib.Core.List.{List}
use Prim.Native.Nat.{ℕ, ◌+◌, ◌*◌, ◌%◌}
use lib.ListN.{take}
use Rattle.family.specs.declared.Family.{Family}
use Rattle.family.specs.Family.{block_words, near_distance}
use Rattle.counter.specs.declared.Counter.{Counter}
use Rattle.compress.specs.Expansion.{linear_run, run_of}
use Rattle.compress.proofs.Growing.{run_even, run_odd}
use Rattle.expanded.proofs.expansion.run.Goals as goal

module _ {f g : Family} (told : f ≡ g) {k : ℕ} (counted : k ≡ block_words f) (r : ℕ) (w : List ℕ) where
  given : (c : Counter) (salt v : List ℕ) → (r % 2 ≡ 0 → ⊥) → take (k * (r + 1) + block_words g) v ≡ linear_run (block_words g) (near_distance g) (block_words g) (take (k * (r + 1)) w)
      → take (block_words f * (r + 1) + block_words f) v ≡ run_of f c salt r (take (block_words f * (r + 1)) w)
  given c salt v odd e = rw (counted, ← told) at e ∙ sym (run_odd f c salt r _ odd)

pub returns-then-r-eq0 : goal.returns-then-r-eq0
returns-then-r-eq0 g c =
    let n = c.nonlinear in (
      rw c.block_words-n.ensures at n.ensures.0 ∙ sym (run_even c.args.family c.args.c c.args.salt.now c.args.r _ c.if-r-eq0.true),
      n.ensures.1,
    )

pub returns-in-Small : goal.returns-in-Small
returns-in-Small g c =
    let n = c.linear in
    (given c.in-Small.is c.block_words-n.ensures c.args.r c.args.w.now c.args.c c.args.salt.now _ c.if-r-eq0.false n.ensures.0, n.ensures.1)

pub returns-in-Large : goal.returns-in-Large
returns-in-Large g c =
    let n = c.linear-in-Large in
    (given c.in-Large.is c.block_words-n.ensures c.args.r c.args.w.now c.args.c c.args.salt.now _ c.if-r-eq0.false n.ensures.0, n.ensures.1)
