-- Every reply has room in an answer: its refusal has four bits, whatever numbers other calls may give, and its value has
-- zeros above its width.
use mathlib.Core.Path.{◌≡◌, refl, sym, subst}
use mathlib.Core.Bool.{Bool, true, false, cond, ◌&&◌}
use mathlib.Core.List.{List, [], ◌∷◌}
use Prim.Native.Nat.{ℕ, zero, suc, ◌*◌, ◌^◌, ◌≤◌, ◌<◌}
use native.Mathlib.Nat.{lt_of_lt_of_le}
use native.Mathlib.Omega.{arith}
use borrow.Author.Tests.{leb-false}
use lib.Dec.{T, leb, ltb, lit<, lit≤, ltb→lt, leb→le}
use lib.ListN.{get_or}
use lib.Pow.{pow_pos, pow_mono}
use lib.IntN.{ℤ, pos, negsuc, nat_abs}
use lib.Signed.{mag}
use mir.Syntax.{Width, w8, w16, w32, w64}
use mir.Val.{bits, to_z, of_z}
use mir.ValLaws.{half_full, to_z-Fits, of_z_fits}
use Rattle.laws.proofs.Table.{both, both_left, both_right}
use Rattle.answers.specs.Reply.{Reply, gives, refusal_of, natural, mapped, Row, row, unless}
use Rattle.answers.proofs.Rows.{Clear}
use Rattle.int_sqrt.specs.Root.{root, root_of}
use Rattle.int_sqrt.proofs.Root.{root_is}
use Rattle.int_log10.specs.Log.{log, log_of}
use Rattle.int_log10.proofs.Log.{log_is}
use Rattle.int_bits.proofs.Count.{count_le}
use Rattle.int_bits.proofs.Recursion.{gather_lt, scatter_lt}
use Rattle.signed.specs.Signed.{mod_z, eq_z, min_z, outside, exact, next, rem_euclid, next_multiple}
use Rattle.signed.proofs.ModZ.{below}
use Rattle.operations.specs.Operations.{width_of, signed, numeral, limit, operation, refusals, answer_of}

pub record Room (n : ℕ) (r : Reply ℕ) : Type 0 where
  pub refusal : refusal_of r < 16
  pub value : natural r < n

-- ---- refusals in rows

-- the numbers of all rows, whether they apply or not
abbrev small_rows : List Row → Bool
small_rows [] = true
small_rows (row k t ∷ rows) = both (ltb k 16) (small_rows rows)

module _ {n : ℕ} (p : 0 < n) {r : Reply ℕ} where
  pub rows_room : (rows : List Row) → T (small_rows rows) → (Clear rows → Room n r) → Room n (unless rows r)
  rows_room [] h f = f tt
  rows_room (row k true ∷ rows) h f = record { refusal = ltb→lt k 16 (both_left (ltb k 16) (small_rows rows) h); value = p }
  rows_room (row k false ∷ rows) h f = rows_room rows (both_right (ltb k 16) (small_rows rows) h) (λ c. f (refl, c))

mapped-unless : {A B : Type 0} (f : A → B) (rows : List Row) (r : Reply A) → mapped f (unless rows r) ≡ unless rows (mapped f r)
mapped-unless f [] r = refl
mapped-unless f (row k true ∷ rows) r = refl
mapped-unless f (row k false ∷ rows) r = mapped-unless f rows r

-- ---- the operations, at a width

module _ (w : Width) where
  root_room : (z : ℤ) → mag z < 2 ^ bits w → Room (2 ^ bits w) (mapped (of_z w) (root_of z))
  root_room (pos n) h = record { refusal = lit< tt; value = small (root n) (root_is n).low }
    where
      small : (s : ℕ) → s * s ≤ n → s < 2 ^ bits w
      small zero l = omega arith
      small (suc s) l = omega arith
  root_room (negsuc n) h = record { refusal = lit< tt; value = pow_pos (bits w) }

  rem_room : (a d : ℤ) → nat_abs d ≤ 2 ^ bits w → Room (2 ^ bits w) (mapped (of_z w) (rem_euclid w a d))
  unfolding rem_euclid
  rem_room a d h =
      let rows = row 3 (eq_z d (pos 0)) ∷ row 4 (eq_z a (min_z w) && eq_z d (negsuc 0)) ∷ [] in
      subst (Room (2 ^ bits w)) (sym (mapped-unless (of_z w) rows (gives (pos (mod_z a (nat_abs d))))))
      (rows_room (pow_pos (bits w)) rows tt (λ c. record { refusal = lit< tt; value = lt_of_lt_of_le (below (nat_abs d) (some d c.0) a) h }))
    where
      some : (d : ℤ) → eq_z d (pos 0) ≡ false → 0 < nat_abs d
      some (pos zero) e = absurd (let h : ◌≡◌ {A = ℕ} 0 1 = cc in omega arith)
      some (pos (suc k)) e = omega arith
      some (negsuc k) e = omega arith

  next_room : (a d : ℤ) → Room (2 ^ bits w) (mapped (of_z w) (next_multiple w a d))
  unfolding next_multiple exact
  next_room a d =
      let rows = row 3 (eq_z d (pos 0)) ∷ row 4 (outside w (next a d)) ∷ [] in
      subst (Room (2 ^ bits w)) (sym (mapped-unless (of_z w) rows (gives (next a d))))
      (rows_room (pow_pos (bits w)) rows tt (λ c. record { refusal = lit< tt; value = (of_z_fits w (next a d) (record { sfits = leb-false _ _ c.1.0 })).fits }))

log_room : (n : ℕ) (z : ℤ) → mag z < n → Room n (log_of z)
log_room n (pos zero) h = record { refusal = lit< tt; value = h }
log_room n (pos (suc v)) h = record { refusal = lit< tt; value = omega (arith, power (log (suc v)), (log_is {v = suc v} (omega arith)).low) }
  where
    power : (k : ℕ) → k < 10 ^ k
    power zero = lit< tt
    power (suc k) = omega (arith, power k)
log_room n (negsuc v) h = record { refusal = lit< tt; value = omega arith }

-- ---- a record's operands, and its reply

module _ (code a : ℕ) (h : a < limit code) where
  numeral_small : mag (numeral code a) < limit code
  numeral_small = go (signed code)
    where
      go : (t : Bool) → mag (cond t (to_z (width_of code) a) (pos a)) < limit code
      go true = half_full (width_of code) (to_z-Fits (width_of code) a (record { fits = h })).sfits
      go false = h

  numeral_abs : nat_abs (numeral code a) ≤ limit code
  numeral_abs = go (numeral code a) numeral_small
    where
      go : (z : ℤ) → mag z < limit code → nat_abs z ≤ limit code
      go (pos n) l = omega arith
      go (negsuc n) l = l

operation_room : (op code a b : ℕ) → a < limit code → b < limit code → Room (limit code) (operation op code a b)
unfolding operation
operation_room zero code a b h k = root_room (width_of code) (numeral code a) (numeral_small code a h)
operation_room (suc zero) code a b h k = log_room (limit code) (numeral code a) (numeral_small code a h)
operation_room (suc (suc zero)) code a b h k = record { refusal = lit< tt; value = lt_of_lt_of_le (gather_lt (bits (width_of code)) a b) (pow_mono (count_le b (bits (width_of code)))) }
operation_room (suc (suc (suc zero))) code a b h k = record { refusal = lit< tt; value = scatter_lt (bits (width_of code)) a b }
operation_room (suc (suc (suc (suc zero)))) code a b h k = rem_room (width_of code) (numeral code a) (numeral code b) (numeral_abs code b k)
operation_room (suc (suc (suc (suc (suc zero))))) code a b h k = next_room (width_of code) (numeral code a) (numeral code b)
operation_room (suc (suc (suc (suc (suc (suc op)))))) code a b h k = record { refusal = lit< tt; value = pow_pos (bits (width_of code)) }

pub answer_room : (op code a b : ℕ) → Room (limit code) (answer_of op code a b)
unfolding answer_of
answer_room op code a b =
    rows_room (pow_pos (bits (width_of code))) (refusals op code a b) tt
    (λ c. operation_room op code a b (leb-false _ _ c.1.0) (leb-false _ _ c.1.1.0))

-- ---- and 64 bits hold every value

abbrev at_most64 : List Width → Bool
at_most64 [] = true
at_most64 (w ∷ ws) = both (leb (bits w) 64) (at_most64 ws)

each_limit : (ws : List Width) (code : ℕ) → T (at_most64 ws) → 2 ^ bits (get_or ws code w64) ≤ 2 ^ 64
each_limit [] code t = lit≤ tt
each_limit (w ∷ ws) zero t = pow_mono (leb→le (bits w) 64 (both_left (leb (bits w) 64) (at_most64 ws) t))
each_limit (w ∷ ws) (suc code) t = each_limit ws code (both_right (leb (bits w) 64) (at_most64 ws) t)

limit_word : (code : ℕ) → limit code ≤ 2 ^ 64
unfolding width_of
limit_word code = each_limit (w8 ∷ w16 ∷ w32 ∷ w64 ∷ w8 ∷ w16 ∷ w32 ∷ w64 ∷ []) code tt

pub answer_word : (op code a b : ℕ) → Room (2 ^ 64) (answer_of op code a b)
answer_word op code a b =
    let r = answer_room op code a b in record { refusal = r.refusal; value = lt_of_lt_of_le r.value (limit_word code) }
