-- The counter's words and the number that they stand for.
use Rattle.std.proofs.Common.{◌≡◌, ℕ, ◌+◌, ◌*◌, ◌/◌, ◌%◌, ◌^◌, ◌<◌, sym, ap, ◌∙◌, lt_of_lt_of_le, mod-eq_of_lt, arith, lit≤, shr-shr, shr_lt}
use native.Mathlib.Nat.{div-eq_of_lt}
use Rattle.counter.specs.declared.Counter.{Counter}
use Rattle.counter.specs.Counter.{number_of, counter_of}

-- the words of a number, each from the quotient before it
quotients : (n : ℕ) → counter_of n ≡ (n % 2 ^ 32, n / 2 ^ 32 % 2 ^ 32, n / 2 ^ 32 / 2 ^ 32 % 2 ^ 32, n / 2 ^ 32 / 2 ^ 32 / 2 ^ 32 % 2 ^ 32)
unfolding counter_of
quotients n = rw (shr-shr (n / 2 ^ 32) 32 32, shr-shr n 32 32, shr-shr n 32 64)

-- one word more, at the low end
low_word : (a n : ℕ) → a < 2 ^ 32 → (a + 2 ^ 32 * n) % 2 ^ 32 ≡ a
low_word a n h = omega arith

high_words : (a n : ℕ) → a < 2 ^ 32 → (a + 2 ^ 32 * n) / 2 ^ 32 ≡ n
high_words a n h = omega arith

pub four_words : (a b c d e : ℕ) → a < 2 ^ 32 → b < 2 ^ 32 → c < 2 ^ 32 → d < 2 ^ 32
    → ◌≡◌ {A = Counter} (a, b, c, d) (counter_of (a + 2 ^ 32 * (b + 2 ^ 32 * (c + 2 ^ 32 * (d + 2 ^ 32 * e)))))
four_words a b c d e ha hb hc hd =
    let n3 = d + 2 ^ 32 * e in
    let n2 = c + 2 ^ 32 * n3 in
    let n1 = b + 2 ^ 32 * n2 in
    sym (quotients (a + 2 ^ 32 * n1) ∙ rw (high_words a n1 ha, high_words b n2 hb, high_words c n3 hc, low_word a n1 ha, low_word b n2 hb, low_word c n3 hc, low_word d e hd))

-- a number below 2^64 has two words
pub two_words : (n : ℕ) → n < 2 ^ 64 → ◌≡◌ {A = Counter} (n % 2 ^ 32, n / 2 ^ 32 % 2 ^ 32, 0, 0) (counter_of n)
unfolding counter_of
two_words n h = rw (div-eq_of_lt h, div-eq_of_lt (lt_of_lt_of_le h (lit≤ {m = 2 ^ 64} {n = 2 ^ 96} tt)))

-- a word's carry goes into the words above it
carried : (a p x b n m : ℕ) → a + 2 ^ 32 * p ≡ x + b → n ≡ m + p → a + 2 ^ 32 * n ≡ x + 2 ^ 32 * m + b
carried a p x b n m h e = omega arith

pub advanced : (x : Counter) (bits a b c d p q r s : ℕ) → a + 2 ^ 32 * p ≡ x.0 + bits → b + 2 ^ 32 * q ≡ x.1 + p → c + 2 ^ 32 * r ≡ x.2 + q → d + 2 ^ 32 * s ≡ x.3 + r
    → a < 2 ^ 32 → b < 2 ^ 32 → c < 2 ^ 32 → d < 2 ^ 32 → ◌≡◌ {A = Counter} (a, b, c, d) (counter_of (number_of x + bits))
unfolding number_of
advanced x bits a b c d p q r s h0 h1 h2 h3 ha hb hc hd =
    let e2 = carried c r x.2 q (d + 2 ^ 32 * s) x.3 h2 h3 in
    let e1 = carried b q x.1 p _ _ h1 e2 in
    let e0 = carried a p x.0 bits _ _ h0 e1 in
    four_words a b c d s ha hb hc hd ∙ ap counter_of e0

word_split : (n : ℕ) → n % 2 ^ 32 + 2 ^ 32 * (n / 2 ^ 32) ≡ n
word_split n = omega arith

-- A counter of four words stands for every number below 2^128.
pub counter_number : (n : ℕ) → n < 2 ^ 128 → number_of (counter_of n) ≡ n
unfolding number_of
counter_number n h =
    let q1 = n / 2 ^ 32 in
    let q2 = q1 / 2 ^ 32 in
    let q3 = q2 / 2 ^ 32 in
    let h1 : q1 < 2 ^ 96 = shr_lt 96 32 h in
    let h2 : q2 < 2 ^ 64 = shr_lt 64 32 h1 in
    let h3 : q3 < 2 ^ 32 = shr_lt 32 32 h2 in
    rw (quotients n, mod-eq_of_lt h3, word_split q2, word_split q1, word_split n)

-- Advancing by a block's bits is addition on that number, up to 2^128.
pub advance_adds : (x : Counter) (bits : ℕ) → number_of x + bits < 2 ^ 128 → number_of (counter_of (number_of x + bits)) ≡ number_of x + bits
advance_adds x bits h = counter_number (number_of x + bits) h

-- Different numbers have different counters.
pub counter_same : (a b : ℕ) → a < 2 ^ 128 → b < 2 ^ 128 → counter_of a ≡ counter_of b → a ≡ b
counter_same a b ha hb e = sym (counter_number a ha) ∙ ap number_of e ∙ counter_number b hb
