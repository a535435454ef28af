use Rattle.std.proofs.Common.{sym, ◌∙◌, arith}
use Rattle.std.proofs.lemmas.Bool.{false≢true}
use Rattle.cron_lines.specs.RunTime.{FitsDay}
use Rattle.cron_lines.proofs.RunTimeLemmas.{none_from}
use Rattle.cron_lines.proofs.times.Line.last_day.Goals as goal

pub returns-then-fits_day : goal.returns-then-fits_day
returns-then-fits_day c = (
  omega arith,
  omega arith,
  c.fits_day.ensures.0 c.if-fits_day.true,
  λ k above high. c.loop-day.invariant k (omega arith) high,
)

pub loop-day-preserved : goal.loop-day-preserved
loop-day-preserved c =
    none_from (FitsDay c.args.self.now) c.loop-day.day c.args.end c.loop-day.invariant
    (λ fits. false≢true (sym c.if-fits_day.false ∙ c.fits_day.ensures.1 fits))

pub returns : goal.returns
returns c = λ k low high. c.loop-day.invariant k (omega arith) high
