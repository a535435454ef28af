-- The lines of a trace as the items of an input.
use Rattle.std.proofs.Common.{◌≡◌, ◌≤◌, ℕ, inl, inr, List, [], ◌∷◌, ◌++◌, Option, Some, refl, ap, sym, ◌∙◌, subst, arith, append-nil, append_assoc}
use Rattle.sq_outside.specs.Streams.{SourceState}
use Rattle.http_wire.specs.Stream.{HasRead}
use Rattle.job_states.specs.declared.command.Command.{Command}
use Rattle.job_states.specs.declared.transition.Transaction.{Transaction}
use Rattle.queue_engine.specs.Calls.{Writes}
use Rattle.queue_engine.specs.Running.{Store, running}
use Rattle.queue_engine.specs.Standing.{StandsOn}
use Rattle.queue_http.specs.Service.{DiskState, Service, service}
use Rattle.queue_model.specs.GoodWorld.{IsGood}
use Rattle.queue_model.specs.Chain.{◌>>=◌}
use Rattle.queue_model.proofs.Steps.{same_Some, then}
use Rattle.situation_model.specs.Situations.{Doubt, Situation, open_at, rolled_back}
use Rattle.situation_model.specs.Steps.{Begin, Commit, CommitFault, Step, after_steps}
use Rattle.trace_lines.specs.Input.{input_of, taken_of, EndsInput, FailsWith, IsBad, IsLine, TakesLine}
use Rattle.trace_lines.specs.Input as trace
use Rattle.trace_lines.specs.declared.input.InputFault.{InputFault}
use Rattle.trace_lines.specs.declared.input.InputFault.TheVariants as faults
use Rattle.trace_lines.specs.declared.line.Line.{Line}
use Rattle.trace_lines.specs.declared.line.Line.TheVariants as line
use Rattle.trace_lines.proofs.InputLaws.{line_good, line_more, one_line}
use Rattle.queue_trace.specs.Traced.{Does, IsTurnedDown, PerformsFrom, Prints}
use Rattle.queue_cli.specs.Answering.{Exchange}
use Rattle.queue_cli.specs.declared.end.End.TheVariants.{Done, BadLine}
use Rattle.queue_cli.specs.Trace.{input_end, lines}
use Rattle.queue_cli.proofs.FaultLines.{rose_by}
use Rattle.queue_cli.proofs.Items.{IsReadOneWay}
use Rattle.queue_cli.proofs.Leaving.{AreReplays, Leaving, leaves_on, leaves_same, leaves_world}
use Rattle.queue_cli.proofs.Serving.{Ahead, ExchangedOn, IsSound, Reads, TakesItem, TakesNone, exchanged_on}

-- ---- how they are read

no_line : (text rest : List ℕ) → [] ≡ text ++ 10 ∷ rest → ⊥
no_line [] rest none = cc
no_line (b ∷ text) rest none = cc

line_not_end : (bytes : List ℕ) (line : Line) (rest : List ℕ) → IsLine bytes line rest → bytes ≡ [] → ⊥
line_not_end bytes line rest is none = no_line is.text rest (sym none ∙ is.begins.parts)

end_good : IsBad [] → ⊥
end_good (inl (inl bad)) = no_line bad.text bad.rest bad.begins.parts
end_good (inl (inr long)) = let less = long.0 in absurd (omega (arith, less))
end_good (inr partly) = partly.1 refl

pub lines_one_way : IsReadOneWay lines
lines_one_way = record {
  longer = line_more;
  first = λ bytes line rest is. (is.text ++ 10 ∷ [], is.begins.parts ∙ sym (append_assoc is.text (10 ∷ []) rest));
  one = one_line;
  goes_on = line_not_end;
  taken = λ bytes line rest why is bad. line_good bytes line rest is bad;
  over = λ bytes why none bad. end_good (subst IsBad none bad);
}

abbrev pub ahead_of : trace.Ahead → Ahead
ahead_of ahead = record { bytes = ahead.bytes; at = ahead.at }

has_read : (old : SourceState) (read : List ℕ) (new : SourceState) (needed : Type 0) → HasRead old read new needed → Reads old read new
has_read old read new needed has = record { consumed = has.consumed; count = has.count }

module _ (ahead ahead' : trace.Ahead) (old new : SourceState) where
  pub takes_line : (line : Line) → TakesLine (input_of ahead old) line (input_of ahead' new) → TakesItem lines (ahead_of ahead) old line (ahead_of ahead') new
  takes_line line takes = record { read = takes.read; reads = has_read _ _ _ _ takes.has_read; is_item = takes.is_line; place = takes.place; within = takes.within }

  pub takes_end : EndsInput (input_of ahead old) (input_of ahead' new) → TakesNone lines (ahead_of ahead) old Done new
  takes_end ends = record {
    read = [];
    reads = has_read _ _ _ _ ends.has_read;
    within = (let within = ends.within in omega (arith, within));
    cause = (append-nil ahead.bytes ∙ ends.none_ahead, ends.all);
  }

  pub takes_none : (fault : InputFault) → FailsWith (input_of ahead old) fault (input_of ahead' new) → TakesNone lines (ahead_of ahead) old (input_end fault) new
  takes_none (faults.BadLine at) fails = record {
    read = fails.read;
    reads = has_read _ _ _ _ fails.has_read;
    within = fails.within;
    cause = record { refusal = tt; end_is = ap BadLine fails.cause.0; refused = fails.cause.1 };
  }
  takes_none faults.ReadFault fails = record { read = fails.read; reads = has_read _ _ _ _ fails.has_read; within = fails.within; cause = fails.cause }
  takes_none faults.InputTooLong fails = record { read = fails.read; reads = has_read _ _ _ _ fails.has_read; within = fails.within; cause = fails.cause }
  takes_none faults.NoMemory fails = record { read = fails.read; reads = has_read _ _ _ _ fails.has_read; within = fails.within; cause = tt }

-- ---- what they leave

rolled_back_world : (s t : Situation) (seat : ℕ) → rolled_back s seat ≡ Some t → t.book.world ≡ s.book.world
rolled_back_world s t seat is =
    let next = then (open_at s seat) _ t is in
    ap (λ (t : Situation). t.book.world) (sym (same_Some _ t next.2))

module _ (replays : AreReplays) (first old new : Service) (so_far : Leaving first old) where
  by_steps : (tx : Transaction) (steps : List Step) → after_steps old.running.settings old.running.situation steps ≡ Some new.running.situation → Writes old.running tx old.disk.history new.disk.history → Leaving first new
  by_steps tx steps situation writes = leaves_on replays first old new so_far (inr (record { steps = steps; situation = situation; tx = tx; writes = writes }))

  by_prints : (text shown : List ℕ) → Prints old text shown new → Leaving first new
  by_prints text shown prints = leaves_same first old new so_far prints.running prints.disk

  by_turned_down : (seat : ℕ) (command : Command) (now : ℕ) (shown : List ℕ) → IsTurnedDown seat old command now shown new → Leaving first new
  by_turned_down seat command now shown (inl finds) = by_prints _ shown finds.prints
  by_turned_down seat command now shown (inr (inl unbuilt)) = by_prints _ shown unbuilt.prints
  by_turned_down seat command now shown (inr (inr (inl refused))) = by_prints _ shown refused.prints
  by_turned_down seat command now shown (inr (inr (inr none))) = by_prints _ shown none.prints

  by_line : (line : Line) (shown : List ℕ) → Does old line shown new → Leaving first new
  by_line (line.Begin now seat command) shown (inl down) = by_turned_down seat command now shown down
  by_line (line.Begin now seat command) shown (inr opened) =
      leaves_world first old new so_far (ap (λ (s : Situation). s.book.world) opened.begun.begins.situation) opened.disk
  by_line (line.Do now seat command) shown (inl down) = by_turned_down seat command now shown down
  by_line (line.Do now seat command) shown (inr (inl done)) = by_steps done.commits.plan.tx (Begin seat command now ∷ Commit seat ∷ []) done.commits.situation done.commits.writes
  by_line (line.Do now seat command) shown (inr (inr meets)) = by_steps meets.fault.plan.tx (Begin seat command now ∷ CommitFault seat meets.fault.left ∷ []) meets.fault.situation meets.fault.writes
  by_line (line.Commit seat) shown (inl finds) = by_prints _ shown finds.prints
  by_line (line.Commit seat) shown (inr (inl done)) = by_steps done.commits.plan.tx (Commit seat ∷ []) (ap (λ o. o >>= (λ s. Some s)) done.commits.situation) done.commits.writes
  by_line (line.Commit seat) shown (inr (inr lost)) = by_steps lost.faults.plan.tx (CommitFault seat lost.faults.left ∷ []) (ap (λ o. o >>= (λ s. Some s)) lost.faults.situation) lost.faults.writes
  by_line (line.Rollback seat) shown (inl finds) = by_prints _ shown finds.prints
  by_line (line.Rollback seat) shown (inr back) = leaves_world first old new so_far (rolled_back_world old.running.situation new.running.situation seat back.rolls_back.situation) back.disk
  by_line line.Reopen shown (inl unbuilt) = by_prints _ shown unbuilt
  by_line line.Reopen shown (inr none) = by_prints _ shown none

-- ---- the whole

lines_sound : AreReplays → IsSound lines
lines_sound replays = record {
  leaves = λ first old new line shown performs so_far. by_line replays first old new so_far line shown performs.does;
  faults = λ old new line shown performs fault. rose_by old new shown fault line performs.does;
}

-- a line is done over an engine that stands on the disk
pub line_exchanged : AreReplays → (engine : Store) (doubt : Doubt) (moments : Option (List ℕ)) (disk : DiskState) (exchange : Exchange lines) (engine' : Store) (disk' : DiskState)
    → PerformsFrom engine disk exchange.item exchange.reply engine' disk' → StandsOn engine doubt disk.history → IsGood engine'.book.world → disk.faults ≤ disk'.faults
    → ExchangedOn lines (service (running engine doubt) moments disk) exchange engine' moments disk'
line_exchanged replays engine doubt moments disk exchange engine' disk' performs stands good later =
    let over = performs moments doubt stands in
    exchanged_on lines (lines_sound replays) (service (running engine doubt) moments disk) exchange engine' over.doubt moments disk' over.performs over.stands good later
