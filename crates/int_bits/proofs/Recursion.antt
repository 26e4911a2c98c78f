-- Gather and scatter, one bit more at the bottom and at the top, and how wide they are. Each by induction on the width. Assumes nothing.
use mathlib.Core.Path.{◌≡◌, refl, ap, ◌∙◌}
use Prim.Native.Nat.{ℕ, zero, suc, ◌+◌, ◌*◌, ◌/◌, ◌%◌, ◌^◌, ◌<◌, min}
use native.Mathlib.Nat.{pow-suc}
use native.Mathlib.Omega.{arith}
use Rattle.laws.proofs.Order.{by_order}
use Rattle.int_bits.specs.Gather.{gather, scatter, bit, count}
use Rattle.int_bits.specs.Stages.{from_bits}
use Rattle.int_bits.proofs.Bit.{by_bit, bit_lt, bit-zero, bit-suc, bit_top, bit_under, bit_from, from_lt}
use Rattle.int_bits.proofs.Count.{count-zero, count_even, count_odd, count_lt}

-- ---- at the bottom: the definitions, by the lowest bit of the mask

pub gather_none : (x m : ℕ) → gather 0 x m ≡ 0
unfolding gather
gather_none x m = refl

gather_even : (w x m : ℕ) → m % 2 ≡ 0 → gather (suc w) x m ≡ gather w (x / 2) (m / 2)
unfolding gather
gather_even w x m e = rw (e, gather)

gather_odd : (w x m : ℕ) → m % 2 ≡ 1 → gather (suc w) x m ≡ x % 2 + 2 * gather w (x / 2) (m / 2)
unfolding gather
gather_odd w x m e = rw (e, gather)

scatter_none : (x m : ℕ) → scatter 0 x m ≡ 0
unfolding scatter
scatter_none x m = refl

scatter_even : (w x m : ℕ) → m % 2 ≡ 0 → scatter (suc w) x m ≡ 2 * scatter w x (m / 2)
unfolding scatter
scatter_even w x m e = rw (e, scatter)

scatter_odd : (w x m : ℕ) → m % 2 ≡ 1 → scatter (suc w) x m ≡ x % 2 + 2 * scatter w (x / 2) (m / 2)
unfolding scatter
scatter_odd w x m e = rw (e, scatter)

-- ---- at the top: bit w of the mask says where bit w of x goes, or which bit of x comes there

pub gather_top : (w x m : ℕ) → gather (suc w) x m ≡ min (bit x w) (bit m w) * 2 ^ count m w + gather w x m
gather_top zero x m =
    by_bit _ (m % 2) (omega arith)
    (λ e. simp (gather_even 0 x m e, gather_none, count-zero, bit-zero) (omega arith))
    (λ e. simp (gather_odd 0 x m e, gather_none, count-zero, bit-zero) (omega arith))
gather_top (suc w) x m =
    let ih = gather_top w (x / 2) (m / 2) in
    by_bit _ (m % 2) (omega arith)
    (λ e. rw (gather_even (suc w) x m e, gather_even w x m e, count_even m w e, bit-suc x w, bit-suc m w) ih)
    (λ e. rw (gather_odd (suc w) x m e, gather_odd w x m e, count_odd m w e, bit-suc x w, bit-suc m w, ih, pow-suc 2 (count (m / 2) w)) (omega arith))

pub scatter_top : (w x m : ℕ) → scatter (suc w) x m ≡ min (bit m w) (bit x (count m w)) * 2 ^ w + scatter w x m
scatter_top zero x m =
    by_bit _ (m % 2) (omega arith)
    (λ e. simp (scatter_even 0 x m e, scatter_none, count-zero, bit-zero) (omega arith))
    (λ e. simp (scatter_odd 0 x m e, scatter_none, count-zero, bit-zero) (omega arith))
scatter_top (suc w) x m =
    let ih = scatter_top w x (m / 2) in
    let ih' = scatter_top w (x / 2) (m / 2) in
    by_bit _ (m % 2) (omega arith)
    (λ e. rw (scatter_even (suc w) x m e, scatter_even w x m e, count_even m w e, bit-suc m w, ih, pow-suc 2 w) (omega arith))
    (λ e. rw (scatter_odd (suc w) x m e, scatter_odd w x m e, count_odd m w e, bit-suc m w, bit-suc x (count (m / 2) w), ih', pow-suc 2 w) (omega arith))

-- ---- how wide they are, and each of their bits

pub gather_lt : (w x m : ℕ) → gather w x m < 2 ^ count m w
gather_lt zero x m = rw (gather_none, count-zero) (omega arith)
gather_lt (suc w) x m =
    let ih = gather_lt w (x / 2) (m / 2) in
    by_bit _ (m % 2) (omega arith)
    (λ e. rw (gather_even w x m e, count_even m w e) ih)
    (λ e. rw (gather_odd w x m e, count_odd m w e, pow-suc 2 (count (m / 2) w)) (omega arith))

pub gather_at : (w x m p : ℕ) → p < w → bit m p ≡ 1 → bit (gather w x m) (count m p) ≡ bit x p
gather_at zero x m p h one = absurd (omega arith)
gather_at (suc w) x m p h one =
    let b = min (bit x w) (bit m w) in
    ap (λ (g : ℕ). bit g (count m p)) (gather_top w x m)
    ∙ by_order p w
    (λ l. bit_under b (count m w) (gather w x m) (count m p) (count_lt m p w l one) ∙ gather_at w x m p l one)
    (λ l. let e : p ≡ w = omega arith in
    rw e (bit_top b (count m w) (gather w x m) (omega (arith, bit_lt x w)) (gather_lt w x m) ∙ omega (arith, rw e at one, bit_lt x w)))

scatter_bits : (w x m : ℕ) → scatter w x m ≡ from_bits w (λ p. min (bit m p) (bit x (count m p)))
unfolding from_bits
scatter_bits zero x m = scatter_none x m
scatter_bits (suc w) x m = scatter_top w x m ∙ ap (λ (s : ℕ). min (bit m w) (bit x (count m w)) * 2 ^ w + s) (scatter_bits w x m)

one_bit : (x m p : ℕ) → min (bit m p) (bit x (count m p)) < 2
one_bit x m p = omega (arith, bit_lt m p)

pub scatter_lt : (w x m : ℕ) → scatter w x m < 2 ^ w
scatter_lt w x m = rw (scatter_bits w x m) (from_lt _ (one_bit x m) w)

pub scatter_at : (w x m p : ℕ) → p < w → bit (scatter w x m) p ≡ min (bit m p) (bit x (count m p))
scatter_at w x m p h = rw (scatter_bits w x m) (bit_from _ (one_bit x m) w p h)
