use Rattle.std.proofs.Common.{subst}
use Rattle.std.proofs.lemmas.Result.{err_from_is_err_and}
use Rattle.http_wire.specs.Stream.{input_of}
use Rattle.http_wire.specs.Reading.{ReadsOn}
use Rattle.http_wire.specs.declared.carry.Pause.{Pause}
use Rattle.http_wire.proofs.PrefixLemmas.{head_whole}
use Rattle.http_wire.proofs.StepLemmas.{last_fails, fault_fails, end_finds, is_end}
use Rattle.http_wire.proofs.carry.Carry.last_head.Goals as goal

pub returns-in_err-head : goal.returns-in_err-head
returns-in_err-head c = λ old source on other.
    let p = err_from_is_err_and c.from_residual.result c.from_residual.ensures.1 in
    rw (p.1, p.2) (last_fails old c.args.self.now source c.args.pause _ on c.in_err-head.ensures.fault.0 c.in_err-head.ensures.fault.1)

pub returns-in-Some : goal.returns-in-Some
returns-in-Some c = λ old source on other. record {
  read = on.read;
  reads = on.ahead;
  found = head_whole 16384 c.args.self.now.bytes c.in-Some.head (rw c.in-Some.is at c.in_ok-head.ensures.head);
}

pub returns-in-Fault : goal.returns-in-Fault
returns-in-Fault c = λ old source on other.
    let P : Pause → Type 0 = λ p. ReadsOn old p (input_of c.args.self.now source) in
    fault_fails old c.args.self.now source (subst P c.in-Fault.is on) (rw c.in_default.is at c.in_ok-head.ensures.none)

pub returns-in_default-pause : goal.returns-in_default-pause
returns-in_default-pause c = λ old source on other.
    let P : Pause → Type 0 = λ p. ReadsOn old p (input_of c.args.self.now source) in
    end_finds old c.args.self.now c.end_ahead.new.self source c.end_ahead.result (subst P (is_end c.args.pause other c.in_default-pause.not-Fault) on) (rw c.in_default.is at c.in_ok-head.ensures.none) c.end_ahead.ensures
