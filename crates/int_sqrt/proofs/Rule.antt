-- The table's rule, n = s * s + r and r ≤ 2 * s at every byte n, by the runs that the table is made of.
use Rattle.std.proofs.Common.{◌≡◌, ap, ◌∙◌, ℕ, zero, suc, ◌+◌, ◌-◌, ◌*◌, ◌<◌, List, [], ◌∷◌, get_or, zero-add, arith}
use Rattle.laws.proofs.Order.{by_order}
use Rattle.int_sqrt.specs.Root.{Remainder}

-- k entries of the root s, whose remainders count up from r
abbrev run : ℕ → ℕ → ℕ → List (ℕ × ℕ) → List (ℕ × ℕ)
run zero s r tail = tail
run (suc k) s r tail = (s, r) ∷ run k s (suc r) tail

-- the entries of k roots from s up, each a run of 2 * s + 1
abbrev pub entries : ℕ → ℕ → List (ℕ × ℕ)
entries zero s = []
entries (suc k) s = run (2 * s + 1) s 0 (entries k (suc s))

-- what stands in a run, and what past it
within : (k s r : ℕ) (tail : List (ℕ × ℕ)) (n : ℕ) → n < k → get_or (run k s r tail) n (0, 0) ≡ (s, r + n)
within zero s r tail n h = absurd (omega arith)
within (suc k) s r tail zero h = ap (λ (x : ℕ). (s, x)) (omega arith)
within (suc k) s r tail (suc n) h = within k s (suc r) tail n (omega arith) ∙ ap (λ (x : ℕ). (s, x)) (omega arith)

past : (k s r : ℕ) (tail : List (ℕ × ℕ)) (n : ℕ) → get_or (run k s r tail) (k + n) (0, 0) ≡ get_or tail n (0, 0)
past zero s r tail n = ap (λ i. get_or tail i (0, 0)) (omega arith)
past (suc k) s r tail n =
    let e : suc k + n ≡ suc (k + n) = omega arith in
    rw e (past k s (suc r) tail n)

abbrev Right : ℕ → ℕ × ℕ → Type 0
Right n p = Remainder n p.0 p.1

-- what stands n places from the first entry of s is the root and the remainder of s * s + n
from : (k s n : ℕ) → s * s + n < (s + k) * (s + k) → Right (s * s + n) (get_or (entries k s) n (0, 0))
from zero s n h = absurd (omega arith)
from (suc k) s n h =
    by_order n (2 * s + 1)
    (λ f. rw (within (2 * s + 1) s 0 (entries k (suc s)) n f) (record { exact = omega arith; small = omega arith }))
    (λ g. let m = n - (2 * s + 1) in
    let e : 2 * s + 1 + m ≡ n = omega arith in
    let q : suc s * suc s + m ≡ s * s + n = omega arith in
    let l : get_or (entries (suc k) s) n (0, 0) ≡ get_or (entries k (suc s)) m (0, 0) = ap (λ i. get_or (entries (suc k) s) i (0, 0)) (omega arith) ∙ past (2 * s + 1) s 0 (entries k (suc s)) m in
    rw l (rw q at (from k (suc s) m (omega arith))))

pub rule : (n : ℕ) → n < 256 → Remainder n (get_or (entries 16 0) n (0, 0)).0 (get_or (entries 16 0) n (0, 0)).1
rule n h = rw zero-add at (from 16 0 n (omega arith))
