-- A layout is encoded and decoded part by part, where its parts are whole bytes: what code does that reads and writes one number after the other.
use mathlib.Core.Path.{◌≡◌, sym, ap, ◌∙◌}
use mathlib.Core.List.{List, [], ◌∷◌, ◌++◌}
use Prim.Native.Nat.{ℕ, zero, suc, ◌+◌, ◌-◌, ◌*◌, ◌/◌, ◌%◌, ◌^◌, ◌<◌, ◌≤◌}
use native.Mathlib.Nat.{mod-eq_of_lt}
use native.Mathlib.Omega.{arith}
use lib.ListN.{length, get_or, take, drop, length-drop, take-append-drop}
use lib.Pow.{shr_mod}
use lib.Seq.{get_or-drop}
use Rattle.fields.specs.Fields.{size, packed, unpacked, Fitting, number, bytes, encode, decode}
use Rattle.fields.proofs.Layouts.{size-append, packed_below, packed-append, unpacked-append}
use Rattle.fields.proofs.Bytes.{Bytes, number_below, number_append, bytes-append}

-- the bytes of a part are bytes
pub bytes_drop : (k : ℕ) {l : List ℕ} → Bytes l → Bytes (drop k l)
bytes_drop k {l} b = record { at = λ i. rw get_or-drop (b.at (k + i)) }

pub bytes_take : (k : ℕ) {l : List ℕ} → Bytes l → Bytes (take k l)
bytes_take k {l} b = record { at = go k l b.at }
  where
    go : (k : ℕ) (l : List ℕ) → ((i : ℕ) → get_or l i 0 < 256) → (i : ℕ) → get_or (take k l) i 0 < 256
    go zero l h i = omega arith
    go (suc k) [] h i = h i
    go (suc k) (x ∷ l) h zero = h 0
    go (suc k) (x ∷ l) h (suc i) = go k l (λ j. h (suc j)) i

-- ---- two parts

module _ (ss ts : List ℕ) where
  pub decode-append : (xs ys : List ℕ) → Bytes ys → size ts ≡ 8 * length ys → decode (ss ++ ts) (xs ++ ys) ≡ decode ss xs ++ decode ts ys
  unfolding decode
  decode-append xs ys b e =
      rw (number_append xs ys, ← e, unpacked-append ss ts (number xs) (number ys) (rw e (number_below ys b)))

  -- the bytes up to j, and from there on
  pub decode_at : (j : ℕ) (l : List ℕ) → Bytes l → j ≤ length l → size ts ≡ 8 * (length l - j) → decode (ss ++ ts) l ≡ decode ss (take j l) ++ decode ts (drop j l)
  decode_at j l b h e =
      ap (decode (ss ++ ts)) (sym (take-append-drop j l))
      ∙ decode-append (take j l) (drop j l) (bytes_drop j b) (rw (length-drop j l) e)

  pub encode-append : (j k : ℕ) (vs us : List ℕ) → size ss ≡ 8 * j → size ts ≡ 8 * k → length vs ≡ length ss → Fitting ts us →
      encode (ss ++ ts) (vs ++ us) ≡ encode ss vs ++ encode ts us
  unfolding encode
  encode-append j k vs us p q e f =
      let all : size (ss ++ ts) / 8 ≡ j + k = rw (size-append ss ts) (omega arith) in
      let front : size ss / 8 ≡ j = omega arith in
      let back : size ts / 8 ≡ k = omega arith in
      rw (all, front, back, packed-append ss ts vs us e, q) (bytes-append j k (packed ss vs) (packed ts us) (rw (← q) (packed_below ts us f)))

-- ---- a part of one number, or of two

module _ (l : List ℕ) (b : Bytes l) where
  pub decode_one : (k : ℕ) → length l ≡ k → decode (8 * k ∷ []) l ≡ number l ∷ []
  unfolding decode unpacked
  decode_one k e =
      let n : number l < 2 ^ (8 * k) = rw (← e) (number_below l b) in
      let whole : number l / 2 ^ 0 ≡ number l = omega arith in
      rw (whole, mod-eq_of_lt n)

  pub decode_two : (s t : ℕ) → s + t ≡ 8 * length l → decode (s ∷ t ∷ []) l ≡ number l / 2 ^ t ∷ number l % 2 ^ t ∷ []
  unfolding decode unpacked
  decode_two s t e =
      let n : number l < 2 ^ (s + t) = rw e (number_below l b) in
      let low : t + 0 ≡ t = omega arith in
      let whole : number l / 2 ^ 0 ≡ number l = omega arith in
      rw (low, whole, shr_mod s t n)

  pub eight_bytes : length l ≡ 8 → number l % 2 ^ 64 ≡ number l
  eight_bytes e = mod-eq_of_lt (rw e at (number_below l b))

pub encode_one : (k v : ℕ) → encode (8 * k ∷ []) (v ∷ []) ≡ bytes k v
unfolding encode packed
encode_one k v =
    let count : (8 * k + 0) / 8 ≡ k = omega arith in
    let whole : v * 2 ^ 0 + 0 ≡ v = omega arith in
    rw (count, whole)
