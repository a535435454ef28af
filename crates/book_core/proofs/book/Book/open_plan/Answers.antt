use Rattle.std.proofs.Common.{◌≡◌, None, sym, ◌∙◌, ap, subst}
use Rattle.std.specs.Prelude.{All, IsTrue}
use Rattle.job_states.specs.Ranges.{is_in_range}
use Rattle.queue_model.specs.Map.{get}
use Rattle.plan_model.specs.Begins.{locked}
use Rattle.plan_model.specs.Books.{Book, with_plan}
use Rattle.plan_model.specs.GoodBook.{IsGoodBook, MayOpen}
use Rattle.plan_model.specs.Plans.{Plan}
use Rattle.book_core.specs.GoodPlan.{plan}
use Rattle.book_core.specs.Opening.{IsOpenFault, refusal}
use Rattle.book_core.specs.Seen.{book_of, plans_of}
use Rattle.book_core.proofs.BookLemmas.{none_open}
use Rattle.book_core.proofs.GivenLemmas.{all_in_range}
use Rattle.book_core.proofs.KeptLemmas.{fault_is, kept_given_up, kept_opened, not_locked, seen_given_up, seen_opened}
use Rattle.book_core.proofs.book.Book.open_plan.Goals as goal
use Rattle.book_core.proofs.book.Book.open_plan.Goals.{After-try_take, In-Ok}

pub given_by-given-requires : goal.given_by-given-requires
given_by-given-requires c =
    subst (λ (p : Plan). All (λ t. IsTrue (is_in_range t)) p.tx.steps) (sym c.plan.view_is)
    (all_in_range c.args.self.now.world c.requires.plan.legal.0 c.args.plan.tx c.requires.plan.legal.1.legal)

vacant : (c : After-try_take) → get (plans_of c.self.inside.locks c.self.inside.opened.entries) c.args.seat ≡ None
vacant c = ap (λ (b : Book). get b.open_plans c.args.seat) c.self.view_is ∙ c.requires.plan.vacant

pub keep-requires-clause-vacant : goal.keep-requires-clause-vacant
keep-requires-clause-vacant c = none_open c.self.inside.locks c.self.inside.opened.entries c.args.seat (vacant (goal.at.keep-requires-clause-vacant c).After-try_take)

pub returns-in-Err-clause-refused : goal.returns-in-Err-clause-refused
returns-in-Err-clause-refused c =
    let parts = c.self.inside in
    let b = book_of parts.tables.world parts.locks parts.opened.entries parts.given in
    let fault = c.in-Err.fault in
    subst (λ r. IsOpenFault (locked c.args.self.now c.args.plan.rows) r) (sym c.refusal.ensures)
    (subst (λ (b : Book). IsOpenFault (locked b c.args.plan.rows) (refusal fault)) c.self.view_is
    (subst (λ (p : Plan). IsOpenFault (locked b p.rows) (refusal fault)) c.plan.view_is
    (fault_is parts.tables.world parts.locks parts.opened.entries parts.given c.args.seat c.self.invariant.holders (vacant (goal.at.returns-in-Err-clause-refused c).After-try_take)
    c.plan.inside.rows.items c.plan.invariant.in_order (c.books_stay_good.ensures.free b c.plan.inside.rows.items).1 fault c.in-Err.ensures.fault)))

is_free : (c : In-Ok) → locked (book_of c.self.inside.tables.world c.self.inside.locks c.self.inside.opened.entries c.self.inside.given) c.plan.inside.rows.items ≡ None
is_free c =
    let parts = c.self.inside in
    let b = book_of parts.tables.world parts.locks parts.opened.entries parts.given in
    not_locked parts.tables.world parts.locks parts.opened.entries parts.given c.args.seat c.self.invariant.holders
    (ap (λ (b : Book). get b.open_plans c.args.seat) c.self.view_is ∙ c.requires.plan.vacant) c.plan.inside.rows.items
    (c.books_stay_good.ensures.free b c.plan.inside.rows.items).1 c.in-Ok.ensures.taken.free

not_held : (c : In-Ok) → locked c.args.self.now c.args.plan.rows ≡ None
not_held c = subst (λ (b : Book). locked b c.args.plan.rows ≡ None) c.self.view_is
    (subst (λ (p : Plan). locked (book_of c.self.inside.tables.world c.self.inside.locks c.self.inside.opened.entries c.self.inside.given) p.rows ≡ None) c.plan.view_is (is_free c))

good : (c : In-Ok) → IsGoodBook (with_plan (book_of c.self.inside.tables.world c.self.inside.locks c.self.inside.opened.entries c.self.inside.given) c.args.seat (plan c.plan.inside.tx c.plan.inside.rows.items c.plan.inside.answer))
good c =
    let parts = c.self.inside in
    let b = book_of parts.tables.world parts.locks parts.opened.entries parts.given in
    let p = plan c.plan.inside.tx c.plan.inside.rows.items c.plan.inside.answer in
    c.books_stay_good.ensures.with_plan b c.args.seat p c.self.invariant.good
    (subst (λ (b : Book). MayOpen b c.args.seat p) (sym c.self.view_is) (subst (λ (p : Plan). MayOpen c.args.self.now c.args.seat p) (sym c.plan.view_is) c.requires.plan)) (is_free c)

pub invariant_of-self-in-Ok-keep : goal.invariant_of-self-in-Ok-keep
invariant_of-self-in-Ok-keep c =
    let parts = c.self.inside in
    let there = goal.at.invariant_of-self-in-Ok-keep c in
    kept_opened parts.tables.world parts.locks c.try_take.new.self parts.opened.entries parts.given parts.tables.spare c.self.invariant c.args.seat (vacant there.After-try_take)
    c.plan.inside.rows.items c.try_take.ensures.sound c.in-Ok.ensures.taken.taken c.plan.inside.tx c.plan.inside.answer c.keep.new.opened.entries c.plan.invariant.in_order c.in-Ok-keep.ensures.opened.0
    c.keep.new.tables.world c.given_by-given.result c.keep.new.tables.spare c.keep.ensures.world c.given_by-given.ensures c.requires.seat c.in-Ok-keep.ensures.ordered (good there.In-Ok)
    c.in-Ok-keep.ensures.more c.in-Ok-keep.ensures.few c.in-Ok-keep.ensures.room

pub returns-in-Ok-keep-clause-opened : goal.returns-in-Ok-keep-clause-opened
returns-in-Ok-keep-clause-opened c =
    let parts = c.self.inside in
    seen_opened parts.tables.world parts.locks c.try_take.new.self parts.opened.entries parts.given parts.tables.spare c.self.invariant c.args.seat (vacant (goal.at.returns-in-Ok-keep-clause-opened c).After-try_take)
    c.plan.inside.rows.items c.try_take.ensures.sound c.in-Ok.ensures.taken.taken c.plan.inside.tx c.plan.inside.answer c.keep.new.opened.entries c.plan.invariant.in_order c.in-Ok-keep.ensures.opened.0
    c.keep.new.tables.world c.given_by-given.result c.keep.ensures.world c.given_by-given.ensures
    ∙ (λ i. with_plan (c.self.view_is i) c.args.seat (c.plan.view_is i))

pub returns-in-Ok-keep-clause-free : goal.returns-in-Ok-keep-clause-free
returns-in-Ok-keep-clause-free c = not_held (goal.at.returns-in-Ok-keep-clause-free c).In-Ok

pub invariant_of-self-in-Err-keep : goal.invariant_of-self-in-Err-keep
invariant_of-self-in-Err-keep c =
    let parts = c.self.inside in
    kept_given_up parts.tables.world parts.locks c.try_take.new.self parts.opened.entries parts.given parts.tables.spare c.self.invariant c.args.seat (vacant (goal.at.invariant_of-self-in-Err-keep c).After-try_take)
    c.plan.inside.rows.items c.try_take.ensures.sound c.in-Ok.ensures.taken.taken c.free.new.self c.free.ensures.freed c.keep.new.opened.entries c.in-Err-keep.ensures.kept
    c.keep.new.tables.world c.keep.new.tables.spare c.keep.ensures.world c.in-Err-keep.ensures.kept_room c.free.ensures.sound

pub returns-in-Err-keep-clause-refused : goal.returns-in-Err-keep-clause-refused
returns-in-Err-keep-clause-refused c = not_held (goal.at.returns-in-Err-keep-clause-refused c).In-Ok

pub returns-in-Err-keep-clause-kept : goal.returns-in-Err-keep-clause-kept
returns-in-Err-keep-clause-kept c =
    let parts = c.self.inside in
    seen_given_up parts.tables.world parts.locks c.try_take.new.self parts.opened.entries parts.given parts.tables.spare c.self.invariant c.args.seat (vacant (goal.at.returns-in-Err-keep-clause-kept c).After-try_take)
    c.plan.inside.rows.items c.try_take.ensures.sound c.in-Ok.ensures.taken.taken c.free.new.self c.free.ensures.freed c.keep.new.opened.entries c.in-Err-keep.ensures.kept
    c.keep.new.tables.world c.keep.ensures.world
    ∙ c.self.view_is
