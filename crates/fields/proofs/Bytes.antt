-- Bytes: numbers there and back, and layouts of whole bytes, encoded and decoded, also in parts.
use mathlib.Core.Path.{◌≡◌, refl, sym, ◌∙◌}
use mathlib.Core.List.{List, [], ◌∷◌, ◌++◌}
use Prim.Native.Nat.{ℕ, zero, suc, ◌+◌, ◌*◌, ◌/◌, ◌%◌, ◌^◌, ◌<◌}
use native.Mathlib.Nat.{mod-eq_of_lt}
use native.Mathlib.Omega.{arith}
use lib.ListN.{length, get_or, length-append, length-replicate, replicate-append-replicate}
use Rattle.fields.specs.Fields.{size, packed, Fitting, eights, number, bytes, encode, decode}
use Rattle.fields.proofs.Layouts.{length-unpacked, packed_below, unpacked-packed, packed-unpacked, packed-append, unpacked-append}

-- what a slice of bytes holds
pub record Bytes (l : List ℕ) : Type 0 where
  pub at : (i : ℕ) → get_or l i 0 < 256

fitting : (l : List ℕ) → Bytes l → Fitting (eights (length l)) l
fitting [] b = tt
fitting (x ∷ l) b = (b.at 0, fitting l (record { at = λ i. b.at (suc i) }))

length-eights : (k : ℕ) → length (eights k) ≡ k
length-eights k = length-replicate k 8

eights-append : (j k : ℕ) → eights (j + k) ≡ eights j ++ eights k
eights-append j k = sym (replicate-append-replicate j k 8)

size-eights : (k : ℕ) → size (eights k) ≡ 8 * k
size-eights zero = refl
size-eights (suc k) = rw (size-eights k) (omega arith)

pub length-bytes : (k n : ℕ) → length (bytes k n) ≡ k
unfolding bytes
length-bytes k n = length-unpacked (eights k) n ∙ length-eights k

pub number_below : (l : List ℕ) → Bytes l → number l < 2 ^ (8 * length l)
unfolding number
number_below l b = rw (← size-eights (length l)) (packed_below (eights (length l)) l (fitting l b))

pub bytes-number : (l : List ℕ) → Bytes l → bytes (length l) (number l) ≡ l
unfolding number bytes
bytes-number l b = unpacked-packed (eights (length l)) l (fitting l b)

pub number-bytes : (k n : ℕ) → number (bytes k n) ≡ n % 2 ^ (8 * k)
unfolding number bytes
number-bytes k n = rw (length-unpacked (eights k) n, length-eights k, packed-unpacked (eights k) n, size-eights k)

pub number_append : (xs ys : List ℕ) → number (xs ++ ys) ≡ number xs * 2 ^ (8 * length ys) + number ys
unfolding number
number_append xs ys =
    rw (length-append xs ys, eights-append (length xs) (length ys), packed-append (eights (length xs)) (eights (length ys)) xs ys (sym (length-eights (length xs))), size-eights (length ys))

pub bytes-append : (j k h n : ℕ) → n < 2 ^ (8 * k) → bytes (j + k) (h * 2 ^ (8 * k) + n) ≡ bytes j h ++ bytes k n
unfolding bytes
bytes-append j k h n p =
    rw (eights-append j k, ← size-eights k) (unpacked-append (eights j) (eights k) h n (rw (size-eights k) p))

-- ---- a layout of k bytes: what is encoded is decoded, and the other way round

module _ (layout : List ℕ) (k : ℕ) (whole : size layout ≡ 8 * k) where
  count : size layout / 8 ≡ k
  count = omega arith

  pub decode-encode : (values : List ℕ) → Fitting layout values → decode layout (encode layout values) ≡ values
  unfolding decode encode
  decode-encode values f =
      rw (count, number-bytes k (packed layout values), ← whole, mod-eq_of_lt (packed_below layout values f), unpacked-packed layout values f)

  pub encode-decode : (l : List ℕ) → Bytes l → length l ≡ k → encode layout (decode layout l) ≡ l
  unfolding decode encode
  encode-decode l b e =
      let n : number l < 2 ^ size layout = rw (whole, ← e) (number_below l b) in
      rw (count, packed-unpacked layout (number l), mod-eq_of_lt n, ← e) (bytes-number l b)
