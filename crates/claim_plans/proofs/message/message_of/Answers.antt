use Rattle.std.proofs.Common.{◌≡◌, ◌<◌, ◌-◌, length, take, ap, sym, ◌∙◌, subst, arith}
use Rattle.std.proofs.lemmas.Result.{IfOk-weaker}
use Rattle.std.specs.Str.{IsCharBoundary}
use Rattle.plan_model.specs.JobCommands as model
use Rattle.claim_plans.proofs.Cuts.{cut_is, kept_part, kept_whole}
use Rattle.claim_plans.proofs.message.message_of.Goals as goal

pub returns-then-len-le-MOST-clause-same : goal.returns-then-len-le-MOST-clause-same
returns-then-len-le-MOST-clause-same c = sym (kept_whole c.args.message (omega (arith, c.if-len-le-MOST.true, c.len.ensures)))

pub returns-clause-same : goal.returns-clause-same
returns-clause-same c =
    let text = c.args.message in
    let kept = c.floor_char_boundary.result in
    let at = c.floor_char_boundary.ensures in
    let is = c.as_str-text.ensures.same in
    let long : 1024 < length text = let n = c.len.ensures in let more = c.if-len-le-MOST.false in omega (arith, n, more) in
    let all : kept - 0 ≡ kept = omega arith in
    let cut : model.cut_at 1024 text ≡ kept = cut_is text 1024 kept long at.bound (subst (λ t. IsCharBoundary t kept) is at.boundary) (λ i above le. subst (λ t. ¬ (IsCharBoundary t i)) is (at.nearest i above le)) in
    IfOk-weaker c.read.result (λ t. t ≡ c.range.result.now) (λ t. t ≡ model.message_of text) (λ t same. same ∙ c.range.ensures.value ∙ ap (λ k. take k c.as_str-text.result.now) all ∙ ap (take kept) is ∙ sym (kept_part text kept long cut)) c.read.ensures
