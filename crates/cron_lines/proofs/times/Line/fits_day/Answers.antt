use Rattle.std.proofs.Common.{◌≡◌, pos, ◌∙◌, arith, w64}
use Rattle.std.proofs.lemmas.Int.{to_z_pos}
use Rattle.jiff_core.specs.Date.{epoch_day}
use Rattle.cron_lines.proofs.RunTimeLemmas.{FitsDay-date}
use Rattle.cron_lines.proofs.times.Line.fits_day.Goals as goal

pub returns-in-Ok : goal.returns-in-Ok
returns-in-Ok c =
    let is_date : epoch_day c.in-Ok.date ≡ pos c.args.day =
    c.in-Ok.ensures.value ∙ to_z_pos w64 c.args.day (omega arith) in
    rw c.fits_date.ensures (
      λ fits. record { date = c.in-Ok.date; is_date = is_date; fits = fits },
      FitsDay-date c.args.self.now c.args.day c.in-Ok.date is_date,
    )
