-- Worked examples, computed: the two tills of the briefing, a field that returns to 50, and masks that overlap. In each the calls are
-- redemptions' own, the answers keep the promises, and demand 3 gives the rest.
use mathlib.Core.Path.{refl}
use mathlib.Core.List.{List, [], ◌∷◌}
use Prim.Native.Nat.{ℕ, ◌+◌, ◌-◌}
use lib.Count.{ones}
use Rattle.std.specs.Prelude.{Ok, Err}
use Rattle.answers.specs.declared.Refusal.{Refusal}
use Rattle.int_bits.specs.Gather.{gather, scatter}
use Rattle.int_bits.specs.Stored.{stored}
use Rattle.cards.specs.Table.{card_rows, guard_rows, updated, read_reply, write_reply}
use Rattle.history.specs.History.{Call, reads, writes, History, none, after, reading, writing}
use Rattle.history.specs.Redemption.{Redemption, Holding, holds, plainly, Interleaved, stop, look, start, finish, Serial}
use Rattle.history.proofs.Interleaving.{demand_3}

-- take an amount from the number under a mask of card 0, or add one to it
abbrev take : ℕ → ℕ → Redemption
take mask amount = record { card = 0; mask = mask; next = λ n. n - amount }

abbrev add : ℕ → ℕ → Redemption
add mask amount = record { card = 0; mask = mask; next = λ n. n + amount }

-- ---- two tills read 50 on one card and both take 50: the second is refused, and the card is paid from once

abbrev tills : List Call
tills =
    reads 0 0xff0 (Ok 50)
    ∷ reads 0 0xff0 (Ok 50)
    ∷ writes 0 0xff0 50 0 (Ok tt)
    ∷ writes 0 0xff0 50 0 (Err Refusal.Differs)
    ∷ []

abbrev paid : List Holding
paid = holds (take 0xff0 50) 50 ∷ []

tills_own : Interleaved [] tills paid
tills_own =
    start (start
    (finish [] (holds (take 0xff0 50) 50 ∷ []) (take 0xff0 50) 50 (Ok tt) plainly
    (finish [] [] (take 0xff0 50) 50 (Err Refusal.Differs) plainly stop)))

-- 50 is 32 in hex
tills_answered : History (0xf325 ∷ []) tills (0xf005 ∷ [])
unfolding read_reply write_reply card_rows guard_rows updated stored gather scatter ones
tills_answered =
    after (reading (record { replies = refl }))
    (after (reading (record { replies = refl }))
    (after (writing (record { replies = refl; leaves_table = refl }))
    (after (writing (record { replies = refl; leaves_table = refl })) none)))

pub paid_once : Serial (0xf325 ∷ []) paid (0xf005 ∷ [])
paid_once = demand_3 (0xf325 ∷ []) tills (0xf005 ∷ []) paid tills_answered tills_own

-- ---- 50, 20, 50: a till that read the first 50 is accepted, after the two that took 30 and brought it back

abbrev back_at_50 : List Call
back_at_50 =
    reads 0 0xff0 (Ok 50)
    ∷ reads 0 0xff0 (Ok 50)
    ∷ writes 0 0xff0 50 20 (Ok tt)
    ∷ reads 0 0xff0 (Ok 20)
    ∷ writes 0 0xff0 20 50 (Ok tt)
    ∷ writes 0 0xff0 50 0 (Ok tt)
    ∷ []

abbrev three : List Holding
three = holds (take 0xff0 30) 50 ∷ holds (add 0xff0 30) 20 ∷ holds (take 0xff0 50) 50 ∷ []

back_own : Interleaved [] back_at_50 three
back_own =
    start (start
    (finish [] (holds (take 0xff0 50) 50 ∷ []) (take 0xff0 30) 50 (Ok tt) plainly
    (start
    (finish [] (holds (take 0xff0 50) 50 ∷ []) (add 0xff0 30) 20 (Ok tt) plainly
    (finish [] [] (take 0xff0 50) 50 (Ok tt) plainly stop)))))

back_answered : History (0xf325 ∷ []) back_at_50 (0xf005 ∷ [])
unfolding read_reply write_reply card_rows guard_rows updated stored gather scatter ones
back_answered =
    after (reading (record { replies = refl }))
    (after (reading (record { replies = refl }))
    (after (writing (record { replies = refl; leaves_table = refl }))
    (after (reading (record { replies = refl }))
    (after (writing (record { replies = refl; leaves_table = refl }))
    (after (writing (record { replies = refl; leaves_table = refl })) none)))))

pub late_till : Serial (0xf325 ∷ []) three (0xf005 ∷ [])
late_till = demand_3 (0xf325 ∷ []) back_at_50 (0xf005 ∷ []) three back_answered back_own

-- ---- masks that overlap: a write under 0ff makes a till stale that read under ff0; one read is refused, one starts no redemption, and
-- one starts a redemption that never writes

abbrev overlap : List Call
overlap =
    reads 0 0xff0 (Ok 0x32)
    ∷ reads 0 0 (Err Refusal.EmptyMask)
    ∷ reads 0 0x0ff (Ok 0x25)
    ∷ writes 0 0x0ff 0x25 0x35 (Ok tt)
    ∷ reads 1 0xff0 (Ok 0)
    ∷ writes 0 0xff0 0x32 0 (Err Refusal.Differs)
    ∷ reads 0 0xff0 (Ok 0x33)
    ∷ []

abbrev raised : List Holding
raised = holds (add 0x0ff 0x10) 0x25 ∷ []

overlap_own : Interleaved [] overlap raised
overlap_own =
    start (look (start
    (finish [] (holds (take 0xff0 50) 0x32 ∷ []) (add 0x0ff 0x10) 0x25 (Ok tt) plainly
    (look
    (finish [] [] (take 0xff0 50) 0x32 (Err Refusal.Differs) plainly
    (start {r = take 0xff0 1} stop))))))

overlap_answered : History (0xf325 ∷ 0 ∷ []) overlap (0xf335 ∷ 0 ∷ [])
unfolding read_reply write_reply card_rows guard_rows updated stored gather scatter ones
overlap_answered =
    after (reading (record { replies = refl }))
    (after (reading (record { replies = refl }))
    (after (reading (record { replies = refl }))
    (after (writing (record { replies = refl; leaves_table = refl }))
    (after (reading (record { replies = refl }))
    (after (writing (record { replies = refl; leaves_table = refl }))
    (after (reading (record { replies = refl })) none))))))

pub stale_till : Serial (0xf325 ∷ 0 ∷ []) raised (0xf335 ∷ 0 ∷ [])
stale_till = demand_3 (0xf325 ∷ 0 ∷ []) overlap (0xf335 ∷ 0 ∷ []) raised overlap_answered overlap_own
