-- Fields that are packed are unpacked again, and the other way round; and a layout in two parts is packed and unpacked in two.
use mathlib.Core.Path.{◌≡◌, refl, sym, ap, ◌∙◌}
use mathlib.Core.List.{List, [], ◌∷◌, ◌++◌}
use Prim.Native.Nat.{ℕ, ◌+◌, ◌*◌, ◌/◌, ◌%◌, ◌^◌, ◌<◌}
use native.Mathlib.Nat.{mul-le-mul_right, mul-add-div_right, add-mul-mod_self_right, mod-eq_of_lt, mod-one}
use native.Mathlib.Omega.{arith}
use lib.Dec.{lit<}
use lib.ListN.{length}
use lib.Pow.{pow-add, pow_pos, high, shr-shr, mod-pow-add}
use Rattle.fields.specs.Fields.{size, packed, unpacked, Fitting}

pub size-append : (ss ts : List ℕ) → size (ss ++ ts) ≡ size ss + size ts
size-append [] ts = omega arith
size-append (s ∷ ss) ts = rw (size-append ss ts) (omega arith)

pub length-unpacked : (ss : List ℕ) (n : ℕ) → length (unpacked ss n) ≡ length ss
unfolding unpacked
length-unpacked [] n = refl
length-unpacked (s ∷ ss) n = rw (length-unpacked ss n)

pub packed_below : (ss vs : List ℕ) → Fitting ss vs → packed ss vs < 2 ^ size ss
unfolding packed
packed_below [] [] f = lit< tt
packed_below [] (v ∷ vs) f = absurd f
packed_below (s ∷ ss) [] f = absurd f
packed_below (s ∷ ss) (v ∷ vs) f =
    rw (pow-add 2 s (size ss)) (omega (arith, packed_below ss vs f.1, mul-le-mul_right (2 ^ size ss) f.0))

-- what stands above a layout's bits is not seen
unpacked_low : (ss : List ℕ) (h n : ℕ) → unpacked ss (h * 2 ^ size ss + n) ≡ unpacked ss n
unfolding unpacked
unpacked_low [] h n = refl
unpacked_low (s ∷ ss) h n =
    let e : h * 2 ^ (s + size ss) + n ≡ (h * 2 ^ s) * 2 ^ size ss + n = rw (pow-add 2 s (size ss)) (omega arith) in
    rw (e, unpacked_low ss (h * 2 ^ s) n, mul-add-div_right (pow_pos (size ss)) (h * 2 ^ s) n)
    (ap (λ x. x % 2 ^ s ∷ unpacked ss n) (omega arith) ∙ ap (λ x. x ∷ unpacked ss n) (add-mul-mod_self_right (n / 2 ^ size ss) h (2 ^ s)))

-- ---- there and back

pub unpacked-packed : (ss vs : List ℕ) → Fitting ss vs → unpacked ss (packed ss vs) ≡ vs
unfolding packed unpacked
unpacked-packed [] [] f = refl
unpacked-packed [] (v ∷ vs) f = absurd f
unpacked-packed (s ∷ ss) [] f = absurd f
unpacked-packed (s ∷ ss) (v ∷ vs) f =
    rw (unpacked_low ss v (packed ss vs), unpacked-packed ss vs f.1, high v (size ss) (packed_below ss vs f.1), mod-eq_of_lt f.0)

pub packed-unpacked : (ss : List ℕ) (n : ℕ) → packed ss (unpacked ss n) ≡ n % 2 ^ size ss
unfolding packed unpacked
packed-unpacked [] n = sym (mod-one n)
packed-unpacked (s ∷ ss) n = rw (packed-unpacked ss n) (sym (mod-pow-add n s (size ss)))

-- ---- two layouts, one after the other

pub packed-append : (ss ts vs us : List ℕ) → length vs ≡ length ss → packed (ss ++ ts) (vs ++ us) ≡ packed ss vs * 2 ^ size ts + packed ts us
unfolding packed
packed-append [] ts [] us e = omega arith
packed-append [] ts (v ∷ vs) us e = absurd (omega arith)
packed-append (s ∷ ss) ts [] us e = absurd (omega arith)
packed-append (s ∷ ss) ts (v ∷ vs) us e =
    rw (packed-append ss ts vs us (omega arith), size-append ss ts, pow-add 2 (size ss) (size ts)) (omega arith)

pub unpacked-append : (ss ts : List ℕ) (h n : ℕ) → n < 2 ^ size ts → unpacked (ss ++ ts) (h * 2 ^ size ts + n) ≡ unpacked ss h ++ unpacked ts n
unfolding unpacked
unpacked-append [] ts h n p = unpacked_low ts h n
unpacked-append (s ∷ ss) ts h n p =
    let e : size (ss ++ ts) ≡ size ts + size ss = size-append ss ts ∙ omega arith in
    rw (e, ← shr-shr (h * 2 ^ size ts + n) (size ts) (size ss), high h (size ts) p, unpacked-append ss ts h n p)
