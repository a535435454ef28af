use Rattle.std.proofs.Common.{rules, arith, ◌≡◌, ◌≤◌, List, [], ◌∷◌, ◌++◌, Option, length, Some, sym, ap, ◌∙◌, refl, subst}
use Rattle.seat_lock.specs.Passes.{IsMade}
use Rattle.seat_lock.proofs.Kept.{starts}
use Rattle.seat_lock.proofs.lock.SeatLock.new.Goals as goal

pub new-requires : goal.new-requires
new-requires g c =
    let same : c.of-start.result.value ≡ c.args.state = c.of-start.ensures in
    let full : c.push_reserved.new.self.items ≡ Some c.of-start.result.value ∷ [] = c.push_reserved.ensures.items ∙ (ap (λ (l : List (Option g.row.T.Denot)). l ++ Some c.args.state ∷ []) c.in-Ok-with_capacity.ensures.items ∙ ap (λ (x : g.row.T.Denot). Some x ∷ []) (sym same)) in
    let few : length (g.T.Seated.rows c.of-start.result.value) ≤ 64 = (let all = ap (λ (x : g.row.T.Denot). length (g.T.Seated.rows x)) same ∙ c.requires.2 in let most = c.requires.1 in omega arith) in
    starts g.T.Seated.rows g.T.Seated.origin c.of-start.result.value _ _ refl full few

pub returns-in-Ok-new-clause-passes : goal.returns-in-Ok-new-clause-passes
returns-in-Ok-new-clause-passes g c i p at =
    let same : c.in-Ok-new.table.shared.key.value ≡ c.args.state = search rules in
    subst (λ (x : g.row.T.Denot). IsMade c.in-Ok-new.table.shared.table_id (g.T.Seated.rows x) (g.T.Seated.origin x) i p) same (c.deal-passes.ensures.passes i p at)
