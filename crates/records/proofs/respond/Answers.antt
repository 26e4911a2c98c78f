-- The value's bytes, and before them the refusal's number, a half byte up.
use Rattle.std.proofs.Common.{refl}
use Rattle.operations.proofs.Chains.{mapped_answer}
use Rattle.records.proofs.Calls.{responds}
use Rattle.records.proofs.respond.Goals as goal

pub returns : goal.returns
returns c =
    responds _ c.reply_to-reply.ensures c.args.answer.now c.requires c.refusal_number.ensures c.value.ensures
    (mapped_answer (λ n. n) (λ u. u) (λ _. tt) _ (λ x y k. refl) c.reply_to-reply.result c.map.result c.map.ensures.cases) c.put.ensures
