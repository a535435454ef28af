use Rattle.std.proofs.Common.{◌≡◌, ◌∷◌, [], ◌++◌, rules, sym, ◌∙◌, ap}
use Rattle.sq_outside.specs.File.{File}
use Rattle.sq_outside.specs.Disk.{Two}
use Rattle.sq_outside.specs.MemoryDisk.{with_nth, before_each, after_all, went_on}
use Rattle.sq_outside.specs.MemoryFile.{after}
use Rattle.sq_outside.specs.StoreView.{initial_files}
use Rattle.sq_outside.specs.declared.memory.change.Entry.{Entry}
use Rattle.sq_outside.proofs.Logs.{after_all-push, before_each-push, same_history}
use Rattle.sq_outside.proofs.memory.store.Store.make.Goals as goal

pub invariant_of-self-2 : goal.invariant_of-self-2
invariant_of-self-2 c =
    let entry : Entry = record { file = c.args.file; change = c.args.change } in
    let initial = initial_files c.self.inside in
    let log : c.push.new.self.items ≡ c.self.inside.log.items ++ entry ∷ [] = search rules in
    record {
      follows = ap (after_all initial) log ∙ after_all-push initial c.self.inside.log.items entry
          ∙ ap (with_nth c.args.file (after c.args.change)) c.self.invariant.follows ∙ sym c.in_ok-change_one.ensures.made;
      sound = c.change_one.ensures.sound c.self.invariant.sound;
    }

pub returns-clause-made : goal.returns-clause-made
returns-clause-made c =
    let entry : Entry = record { file = c.args.file; change = c.args.change } in
    let initial = initial_files c.self.inside in
    let log : c.push.new.self.items ≡ c.self.inside.log.items ++ entry ∷ [] = search rules in
    let earlier = ap (before_each initial) log ∙ before_each-push initial c.self.inside.log.items entry
    ∙ ap (λ (now : Two File). before_each initial c.self.inside.log.items ++ now ∷ []) c.self.invariant.follows in
    same_history _ _ _ _ earlier c.in_ok-change_one.ensures.made ∙ ap (went_on entry) c.self.view_is
