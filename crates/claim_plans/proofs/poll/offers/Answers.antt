use Rattle.std.proofs.Common.{◌≡◌, ◌-◌, None, Some, length, map, filter, ap, sym, ◌∙◌, arith}
use Rattle.std.specs.Option.{option_copied}
use Rattle.plan_model.specs.Orders.{first_of}
use Rattle.claim_plans.specs.Polls.{is_free_job}
use Rattle.claim_plans.proofs.Taking.{found_all, keeps_more}
use Rattle.claim_plans.proofs.poll.offers.Goals as goal

pub loop-left-preserved : goal.loop-left-preserved
loop-left-preserved c =
    let before = filter (is_free_job c.args.book.now) c.loop-left.left in
    let first : first_of before ≡ Some c.in-Some.job.now = sym c.next_offer.ensures.first ∙ ap option_copied c.in-Some.is in
    record {
      found = keeps_more (λ j. j.now) c.args.most c.loop-left.jobs.items c.push.new.self.items c.in-Some.job before (filter (is_free_job c.args.book.now) c.next_offer.new.left) (omega (arith, c.loop-left-test.true, c.len.ensures)) c.in_ok-push-in-Some.ensures.items first c.next_offer.ensures.left ∙ c.loop-left.invariant.found;
      few = let more = c.in_ok-push-in-Some.ensures.len in omega (arith, c.loop-left-test.true, c.len.ensures, more);
    }

pub returns-in-None : goal.returns-in-None
returns-in-None c =
    let before = filter (is_free_job c.args.book.now) c.loop-left.left in
    let none : first_of before ≡ None = sym c.next_offer.ensures.first ∙ ap option_copied c.in-None.is in
    sym (found_all (c.args.most - length c.loop-left.jobs.items) (map (λ j. j.now) c.loop-left.jobs.items) before none) ∙ c.loop-left.invariant.found
