-- The definitions have the document's properties (`-is`), and each property determines the result (`-only`). Assumes nothing.
use mathlib.Core.Path.{◌≡◌, refl, sym, ap, ◌∙◌, subst}
use Prim.Native.Nat.{ℕ, zero, suc, ◌+◌, ◌-◌, ◌*◌, ◌%◌, ◌^◌, ◌≤◌, ◌<◌}
use native.Mathlib.Nat.{mod-le, mod-eq_of_lt, le_antisymm, zero-add, zero-mul}
use native.Mathlib.Omega.{arith}
use lib.Dec.{le→leb, leb→le, lt→ltb, ltb→lt}
use lib.Pow.{pow_pos}
use lib.IntN.{ℤ, pos, negsuc, neg_ℤ, nat_abs, ◌+ℤ◌, ◌-ℤ◌, ◌*ℤ◌, +ℤ_assoc, +ℤ_comm, +ℤ_idl, -ℤ-+ℤ_cancel, +ℤ-neg_ℤ_cancel, neg_ℤ-+ℤ, neg_ℤ-neg_ℤ, *ℤ-negsuc}
use lib.Signed.{◌≤ℤ◌, ◌<ℤ◌, le_z_yes, lt_z_yes}
use mir.Syntax.{Width}
use mir.Val.{bits, hbits, SFits}
use Rattle.signed.specs.Signed.{mod_z, min_z, wrap, next}
use Rattle.signed.specs.Words.{InRange, Multiple, IsRemainder, IsLeast, IsGreatest, IsWrapped}
use Rattle.laws.proofs.Order.{sub_cases, pos-minus}
use Rattle.signed.proofs.ModZ.{below, mod_shift, mod_split, mod_only, mod-add}
use Rattle.signed.proofs.Range.{fits_is}
use Rattle.signed.proofs.Wrap.{in_range, mod_wrap, wrap_same, wrap_fits, cancel}

-- ---- the order by sums

le_plus : (a : ℤ) (t : ℕ) → a ≤ℤ (a +ℤ pos t)
le_plus (pos x) t = le_z_yes (le→leb x (x + t) (omega arith))
le_plus (negsuc x) t =
    sub_cases (λ z. negsuc x ≤ℤ z) t (suc x)
    (λ h. le_z_yes (le→leb (suc x - suc t) x (omega arith))) (λ h. le_z_yes tt)

le_more : (a : ℤ) (s t : ℕ) → s ≤ t → (a +ℤ pos s) ≤ℤ (a +ℤ pos t)
le_more a s t h =
    subst (λ z. (a +ℤ pos s) ≤ℤ z) (+ℤ_assoc a (pos s) (pos (t - s)) ∙ ap (λ n. a +ℤ pos n) (omega arith)) (le_plus (a +ℤ pos s) (t - s))

le_less : (a : ℤ) (s t : ℕ) → s ≤ t → a ≤ℤ ((a +ℤ pos t) -ℤ pos s)
le_less a s t h =
    subst (λ z. a ≤ℤ z) (sym (+ℤ_assoc a (pos t) (neg_ℤ (pos s)) ∙ ap (λ z. a +ℤ z) (pos-minus t s
    ∙ sub_cases (λ z. z ≡ pos (t - s)) t s (λ l. absurd (omega arith)) (λ l. refl)))) (le_plus a (t - s))

plus_of : (a b : ℤ) → a ≤ℤ b → (t : ℕ) × (b ≡ a +ℤ pos t)
plus_of (pos x) (pos y) h = (y - x, ap pos (omega (arith, leb→le x y h.le)))
plus_of (pos x) (negsuc y) h = absurd h.le
plus_of (negsuc x) (pos y) h =
    (suc x + y, sub_cases (λ z. pos y ≡ z) (suc x + y) (suc x) (λ l. absurd (omega arith)) (λ l. ap pos (omega arith)))
plus_of (negsuc x) (negsuc y) h =
    (x - y, sub_cases (λ z. negsuc y ≡ z) (x - y) (suc x) (λ l. ap negsuc (omega (arith, leb→le y x h.le))) (λ l. absurd (omega arith)))

antisymm : (a b : ℤ) → a ≤ℤ b → b ≤ℤ a → a ≡ b
antisymm (pos x) (pos y) h k = ap pos (le_antisymm (leb→le x y h.le) (leb→le y x k.le))
antisymm (pos x) (negsuc y) h k = absurd h.le
antisymm (negsuc x) (pos y) h k = absurd k.le
antisymm (negsuc x) (negsuc y) h k = ap negsuc (le_antisymm (leb→le x y k.le) (leb→le y x h.le))

-- a sum that is kept with its parts: b = a + (b − a), and so on
plus_minus : (a b : ℤ) → b +ℤ (a -ℤ b) ≡ a
plus_minus a b = +ℤ_comm b (a -ℤ b) ∙ -ℤ-+ℤ_cancel a b

minus_plus : (a b : ℤ) → (a +ℤ b) -ℤ a ≡ b
minus_plus a b = ap (λ z. z -ℤ a) (+ℤ_comm a b) ∙ +ℤ-neg_ℤ_cancel b a

-- ---- multiples

neg-mul : (q : ℤ) (m : ℕ) → neg_ℤ (q *ℤ pos m) ≡ neg_ℤ q *ℤ pos m
neg-mul (pos zero) m = ap (λ n. neg_ℤ (pos n)) (zero-mul m) ∙ ap pos (sym (zero-mul m))
neg-mul (pos (suc n)) m = refl
neg-mul (negsuc n) m = neg_ℤ-neg_ℤ (pos (suc n * m))

-- a multiple of d is one of |d|, and the other way round
to_abs : (d z : ℤ) → Multiple d z → Multiple (pos (nat_abs d)) z
to_abs (pos m) z h = h
to_abs (negsuc k) z (q, e) = (neg_ℤ q, e ∙ *ℤ-negsuc q k ∙ neg-mul q (suc k))

from_abs : (d z : ℤ) → Multiple (pos (nat_abs d)) z → Multiple d z
from_abs (pos m) z h = h
from_abs (negsuc k) z (q, e) = (neg_ℤ q, e ∙ sym (*ℤ-negsuc (neg_ℤ q) k ∙ neg-mul (neg_ℤ q) (suc k) ∙ ap (λ p. p *ℤ pos (suc k)) (neg_ℤ-neg_ℤ q)))

negated : (m : ℕ) (z : ℤ) → Multiple (pos m) z → Multiple (pos m) (neg_ℤ z)
negated m z (q, e) = (neg_ℤ q, ap neg_ℤ e ∙ neg-mul q m)

-- a less its remainder is a multiple; and what t more than a multiple is has t's remainder
rest : (m : ℕ) → 0 < m → (a : ℤ) → Multiple (pos m) (a -ℤ pos (mod_z a m))
rest m p a =
    let (q, e) = mod_split m p a in
    (q, ap (λ z. z -ℤ pos (mod_z a m)) e ∙ minus_plus (pos (mod_z a m)) (q *ℤ pos m))

over : (m : ℕ) → 0 < m → (a y : ℤ) (t : ℕ) → Multiple (pos m) y → a ≡ y +ℤ pos t → mod_z a m ≡ t % m
over m p a y t (q, e) h = ap (λ z. mod_z z m) (h ∙ +ℤ_comm y (pos t) ∙ ap (λ z. pos t +ℤ z) e) ∙ mod_shift m p (pos t) q

-- ---- the remainder

pub remainder_is : (a d : ℤ) → 0 < nat_abs d → IsRemainder a d (pos (mod_z a (nat_abs d)))
remainder_is a d p = record {
  low = le_z_yes (le→leb 0 (mod_z a (nat_abs d)) (omega arith));
  high = lt_z_yes (lt→ltb (mod_z a (nat_abs d)) (nat_abs d) (below (nat_abs d) p a));
  multiple = from_abs d (a -ℤ pos (mod_z a (nat_abs d))) (rest (nat_abs d) p a);
}

pub remainder_only : (a d r : ℤ) → IsRemainder a d r → r ≡ pos (mod_z a (nat_abs d))
remainder_only a d (pos n) h =
    let (q, e) = to_abs d (a -ℤ pos n) h.multiple in
    let l : n < nat_abs d = ltb→lt n (nat_abs d) h.high.lt in
    ap pos (sym (mod_only (nat_abs d) (omega arith) a q n l (sym (plus_minus a (pos n)) ∙ ap (λ z. pos n +ℤ z) e)))
remainder_only a d (negsuc n) h = absurd h.low.le

pub one_remainder : (a d r s : ℤ) → IsRemainder a d r → IsRemainder a d s → r ≡ s
one_remainder a d r s h k = remainder_only a d r h ∙ sym (remainder_only a d s k)

-- ---- the next multiple

pub least_is : (a : ℤ) (m : ℕ) → 0 < m → IsLeast a (pos m) (next a (pos m))
least_is a m p = record {
  multiple =
      subst (Multiple (pos m))
      (neg_ℤ-+ℤ (neg_ℤ a) (neg_ℤ (pos (mod_z (neg_ℤ a) m))) ∙ ap (λ z. z +ℤ neg_ℤ (neg_ℤ (pos (mod_z (neg_ℤ a) m)))) (neg_ℤ-neg_ℤ a) ∙ ap (λ z. a +ℤ z) (neg_ℤ-neg_ℤ (pos (mod_z (neg_ℤ a) m))))
      (negated m (neg_ℤ a -ℤ pos (mod_z (neg_ℤ a) m)) (rest m p (neg_ℤ a)));
  reaches = le_plus a (mod_z (neg_ℤ a) m);
  least = λ y h l.
      let (t, e) = plus_of a y l in
      let same : mod_z (neg_ℤ a) m ≡ t % m =
      over m p (neg_ℤ a) (neg_ℤ y) t (negated m y h)
      (sym (ap (λ z. z +ℤ pos t) (ap neg_ℤ e ∙ neg_ℤ-+ℤ a (pos t)) ∙ -ℤ-+ℤ_cancel (neg_ℤ a) (pos t))) in
      subst (λ z. (a +ℤ pos (mod_z (neg_ℤ a) m)) ≤ℤ z) (sym e) (le_more a (mod_z (neg_ℤ a) m) t (omega (arith, same, mod-le t m)));
}

pub least_has : (a d : ℤ) → pos 0 <ℤ d → IsLeast a d (next a d)
least_has a (pos m) l = least_is a m (ltb→lt 0 m l.lt)
least_has a (negsuc k) l = absurd l.lt

pub least_only : (a d y z : ℤ) → IsLeast a d y → IsLeast a d z → y ≡ z
least_only a d y z h k = antisymm y z (h.least z k.multiple k.reaches) (k.least y h.multiple h.reaches)

pub greatest_is : (a : ℤ) (k : ℕ) → IsGreatest a (negsuc k) (next a (negsuc k))
greatest_is a k = record {
  multiple = from_abs (negsuc k) (next a (negsuc k)) (rest (suc k) (omega arith) a);
  within = subst (λ z. (a -ℤ pos (mod_z a (suc k))) ≤ℤ z) (-ℤ-+ℤ_cancel a (pos (mod_z a (suc k)))) (le_plus (a -ℤ pos (mod_z a (suc k))) (mod_z a (suc k)));
  greatest = λ y h l.
      let (t, e) = plus_of y a l in
      let same : mod_z a (suc k) ≡ t % suc k = over (suc k) (omega arith) a y t (to_abs (negsuc k) y h) e in
      subst (λ z. y ≤ℤ (z -ℤ pos (mod_z a (suc k)))) (sym e) (le_less y (mod_z a (suc k)) t (omega (arith, same, mod-le t (suc k))));
}

pub greatest_has : (a d : ℤ) → d <ℤ pos 0 → IsGreatest a d (next a d)
greatest_has a (pos m) l = absurd (omega (arith, ltb→lt m 0 l.lt))
greatest_has a (negsuc k) l = greatest_is a k

pub greatest_only : (a d y z : ℤ) → IsGreatest a d y → IsGreatest a d z → y ≡ z
greatest_only a d y z h k = antisymm y z (k.greatest y h.multiple h.within) (h.greatest z k.multiple k.within)

-- ---- the wrapped number

-- a number with remainder 0 is a multiple
whole : (m : ℕ) → 0 < m → (x : ℤ) → mod_z x m ≡ 0 → Multiple (pos m) x
whole m p x e = let (q, h) = mod_split m p x in (q, h ∙ ap (λ n. pos n +ℤ q *ℤ pos m) e ∙ +ℤ_idl (q *ℤ pos m))

-- numbers with one remainder differ by a multiple
differ : (m : ℕ) → 0 < m → (x y : ℤ) → mod_z y m ≡ mod_z x m → Multiple (pos m) (x -ℤ y)
differ m p x y e =
    whole m p (x -ℤ y)
    (cancel m (mod_z y m) (mod_z (x -ℤ y) m) 0 p (below m p y) (below m p (x -ℤ y)) p
    (sym (mod-add m p (x -ℤ y) y) ∙ ap (λ z. mod_z z m) (-ℤ-+ℤ_cancel x y) ∙ sym e
    ∙ sym (ap (λ n. n % m) (zero-add (mod_z y m)) ∙ mod-eq_of_lt (below m p y))))

pub wrapped_is : (w : Width) (z : ℤ) → IsWrapped w z (wrap w z)
wrapped_is w z = record { fits = in_range w z; multiple = differ (2 ^ bits w) (pow_pos (bits w)) z (wrap w z) (mod_wrap w z) }

pub wrapped_in_range : (w : Width) (z : ℤ) → InRange w (wrap w z)
wrapped_in_range w z = (fits_is w (wrap w z)).0 (in_range w z)

pub wrapped_only : (w : Width) (z r : ℤ) → IsWrapped w z r → r ≡ wrap w z
wrapped_only w z r h =
    let (q, e) = h.multiple in
    sym (wrap_fits w r h.fits)
    ∙ wrap_same w r z (sym (ap (λ y. mod_z y (2 ^ bits w)) (sym (plus_minus z r) ∙ ap (λ y. r +ℤ y) e) ∙ mod_shift (2 ^ bits w) (pow_pos (bits w)) r q))

-- ---- what a width holds: −2 ^ (width − 1) ≤ z < 2 ^ (width − 1)

pub range_of : (w : Width) (z : ℤ) → SFits w z → (min_z w ≤ℤ z) × (z <ℤ pos (2 ^ hbits w))
range_of w (pos n) f = (le_z_yes tt, lt_z_yes (lt→ltb n (2 ^ hbits w) f.sfits))
range_of w (negsuc n) f = (le_z_yes (le→leb n (2 ^ hbits w - 1) (omega (arith, f.sfits))), lt_z_yes tt)

pub of_range : (w : Width) (z : ℤ) → min_z w ≤ℤ z → z <ℤ pos (2 ^ hbits w) → SFits w z
of_range w (pos n) h k = record { sfits = ltb→lt n (2 ^ hbits w) k.lt }
of_range w (negsuc n) h k = record { sfits = omega (arith, leb→le n (2 ^ hbits w - 1) h.le, pow_pos (hbits w)) }
