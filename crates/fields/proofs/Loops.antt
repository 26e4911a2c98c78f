-- What `get` and `put` do byte by byte: the number of the bytes so far, and what is left of the number before the bytes that stand already.
use mathlib.Core.Path.{◌≡◌, refl, sym, ap, ◌∙◌}
use mathlib.Core.List.{List, [], ◌∷◌, ◌++◌}
use Prim.Native.Nat.{ℕ, zero, suc, ◌+◌, ◌-◌, ◌*◌, ◌/◌, ◌%◌, ◌^◌, ◌<◌, ◌≤◌}
use native.Mathlib.Numerals.{add-one, sub-one}
use native.Mathlib.Omega.{arith}
use lib.Pow.{pow-add}
use lib.ListN.{length, get_or, set, drop}
use lib.Seq.{drop-cons, drop-set-lt, append_snoc, get_or-set_same, lt-length-set}
use mir.Syntax.{w8}
use mir.Val.{Fits}
use Rattle.std.specs.Prelude.{fold}
use Rattle.fields.specs.Fields.{packed, unpacked, number, bytes}
use Rattle.fields.proofs.Bytes.{number_append, bytes-append}

-- ---- `get`

number_one : (b : ℕ) → number (b ∷ []) ≡ b
unfolding number packed
number_one b = omega arith

-- the number, once a byte is taken
abbrev pub taken : ℕ → ℕ → ℕ
taken n b = n * 2 ^ 8 % 2 ^ 64 + b

-- bytes that are taken after those of n
taken_after : (n : ℕ) (l : List ℕ) → ((i : ℕ) → Fits w8 (get_or l i 0)) → fold taken (n % 2 ^ 64) l ≡ (n * 2 ^ (8 * length l) + number l) % 2 ^ 64
unfolding number packed
taken_after n [] f = omega arith
taken_after n (b ∷ l) f =
    let one : n % 2 ^ 64 * 2 ^ 8 % 2 ^ 64 + b ≡ (n * 2 ^ 8 + b) % 2 ^ 64 = omega (arith, (f 0).fits) in
    let size : 8 * length (b ∷ l) ≡ 8 + 8 * length l = omega arith in
    ap (λ m. fold taken m l) one
    ∙ taken_after (n * 2 ^ 8 + b) l (λ i. f (suc i))
    ∙ ap (λ m. m % 2 ^ 64) (rw (size, pow-add 2 8 (8 * length l), number_append (b ∷ []) l, number_one b) (omega arith))

pub number_taken : (part : List ℕ) → ((i : ℕ) → Fits w8 (get_or part i 0)) → number part % 2 ^ 64 ≡ fold taken 0 part
number_taken part f = sym (taken_after 0 part f ∙ ap (λ m. m % 2 ^ 64) (omega arith))

-- ---- `put`

bytes_last : (k n : ℕ) → bytes (suc k) n ≡ bytes k (n / 256) ++ (n % 256 ∷ [])
unfolding bytes unpacked
bytes_last k n =
    let e : n ≡ n / 256 * 2 ^ (8 * 1) + n % 256 = omega arith in
    let low : n % 256 / 2 ^ 0 % 2 ^ 8 ≡ n % 256 = omega arith in
    ap (bytes (suc k)) e
    ∙ ap (λ i. bytes i (n / 256 * 2 ^ (8 * 1) + n % 256)) (sym (add-one k))
    ∙ bytes-append k 1 (n / 256) (n % 256) (omega arith)
    ∙ ap (λ b. bytes k (n / 256) ++ (b ∷ [])) low

-- one more byte is put before those that stand from place i on
pub put_last : (part : List ℕ) (i rest : ℕ) → 0 < i → i ≤ length part →
    bytes i rest ++ drop i part ≡ bytes (i - 1) (rest / 256) ++ drop (i - 1) (set part (i - 1) (rest % 256))
put_last part zero rest h k = absurd (omega arith)
put_last part (suc i) rest h k =
    let b = rest % 256 in
    rw (sub-one, bytes_last i rest, drop-cons (set part i b) i 0 (lt-length-set part i b k), get_or-set_same part i b 0 k, drop-set-lt (suc i) part i b (omega arith), append_snoc)

pub put_none : (rest : ℕ) (part : List ℕ) → bytes 0 rest ++ part ≡ part
unfolding bytes unpacked
put_none rest part = refl
