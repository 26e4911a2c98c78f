-- What `respond` promises, from the bytes that it writes.
use mathlib.Core.Path.{◌≡◌, sym, ap, ap₂, ◌∙◌, subst}
use mathlib.Core.List.{List, ◌∷◌}
use Prim.Native.Nat.{ℕ, ◌-◌, ◌*◌, ◌^◌}
use borrow.Rule.Slice.PartMut.{mid_of, put_mid}
use lib.ListN.{length, set}
use Rattle.fields.specs.Fields.{bytes}
use Rattle.answers.specs.Reply.{Reply, refusal_of, natural, mapped}
use Rattle.answers.specs.Answers.{Answer, means}
use Rattle.operations.proofs.Values.{Room}
use Rattle.records.specs.Records.{reply_to, answer_bytes, Responds}
use Rattle.records.proofs.Coded.{answer_bytes_are, written}
use Rattle.records.proofs.RoundTrip.{reply_room}

-- `respond` has the reply q, has `put` write its value, and stores its refusal a half byte up
module _ (asked : List ℕ) {q : Reply ℕ} (is : q ≡ reply_to asked) where
  pub room : Room (2 ^ 64) q
  room = subst (Room (2 ^ 64)) (sym is) (reply_room asked)

  pub responds : (l : List ℕ) {r : Answer Unit} {why v : ℕ} {ys : List ℕ} → length l ≡ 9 → why ≡ refusal_of q → v ≡ natural q →
      means r ≡ mapped (λ _. tt) q →
      ys ≡ bytes (length (mid_of 1 (length l - 1) l)) v →
      Responds asked r (set (put_mid 1 (length l - 1) l ys) 0 (why * 16))
  responds l {r} {why} {v} n ew ev er e = record {
    replies = er ∙ ap (mapped (λ _. tt)) is;
    leaves_answer =
        written l (why * 16) v n e
        ∙ ap₂ (λ x y. x * 16 ∷ bytes 8 y) ew ev
        ∙ sym (answer_bytes_are q room.refusal room.value) ∙ ap answer_bytes is;
  }
