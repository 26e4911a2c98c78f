-- One step of Zimmermann's Karatsuba square root, on natural numbers and over the size b of a digit: from the root s and remainder r of
-- h, a number close to the root of h * (b * b) + a * b + c, and the true root and remainder after at most one correction.
use Rattle.std.proofs.Common.{◌≡◌, ℕ, zero, suc, ◌+◌, ◌-◌, ◌*◌, ◌/◌, ◌%◌, ◌<◌, ◌≤◌, ap, le_of_suc-le-suc, mul-le-mul_right, mod-lt, div-lt_iff_lt-mul, mul-le-mul, div-add-mod', arith}
use Rattle.int_sqrt.specs.Root.{Root, Remainder}

-- s is the root of n or one more: n - s * s is x - y, between -2 * s and 2 * s
pub record Close (n s x y : ℕ) : Type 0 where
  pub exact : n + y ≡ s * s + x
  pub above : x < 2 * s
  pub near : y < 2 * s

square_pred : (s : ℕ) → zero < s → (s - 1) * (s - 1) + 2 * s ≡ s * s + 1
square_pred zero h = omega arith
square_pred (suc t) h = let e : suc t - 1 ≡ t = omega arith in rw e (omega arith)

module _ {n s x y : ℕ} (p : Close n s x y) where
  -- with no borrow s is the root, and x - y the remainder
  pub kept : y ≤ x → Remainder n s (x - y)
  kept h = record { exact = omega arith; small = omega arith }

  -- with a borrow s - 1 is, and the remainder r is x + (2 * s - 1) - y
  pub fixed : {r : ℕ} → x < y → r + y ≡ x + (2 * s - 1) → Remainder n (s - 1) r
  fixed h e = let q = square_pred s (omega arith) in record { exact = omega arith; small = omega arith }

  -- the same, told by the square of s alone
  pub root_kept : s * s ≤ n → Root n s
  root_kept h = record { low = h; high = omega arith }

  pub root_fixed : n < s * s → Root n (s - 1)
  root_fixed h =
      let e : s - 1 + 1 ≡ s = omega arith in
      let q = square_pred s (omega arith) in
      record { low = omega arith; high = rw e h }

square_near : (q b : ℕ) → zero < b → q ≤ b → q * q < b * b + 2 * q
square_near zero b hb h = omega (arith, mul-le-mul hb hb)
square_near (suc q) b hb h = omega (arith, mul-le-mul h h)

module _ (b h s r a c : ℕ) (p : Remainder h s r) (pos : zero < b) (norm : b ≤ 2 * s) (ha : a < b) (hc : c < b) where
  pub quotient_le : (r * b + a) / (2 * s) ≤ b
  quotient_le =
      let bound : r * b + a < suc b * (2 * s) = omega (arith, mul-le-mul_right b p.small) in
      le_of_suc-le-suc ((div-lt_iff_lt-mul (omega arith)).1 bound)

  pub close : Close (h * (b * b) + a * b + c) (s * b + (r * b + a) / (2 * s)) ((r * b + a) % (2 * s) * b + c) ((r * b + a) / (2 * s) * ((r * b + a) / (2 * s)))
  close =
      let q = (r * b + a) / (2 * s) in
      let u = (r * b + a) % (2 * s) in
      let small : u < 2 * s = mod-lt (r * b + a) (omega arith) in
      record {
        exact = omega (arith, ap (λ (x : ℕ). x * (b * b)) p.exact, ap (λ (x : ℕ). x * b) (div-add-mod' (r * b + a) (2 * s)));
        above = omega (arith, mul-le-mul_right b small);
        near = omega (arith, square_near q b pos quotient_le, mul-le-mul_right b norm);
      }
