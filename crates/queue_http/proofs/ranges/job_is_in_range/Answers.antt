use Rattle.queue_http.specs.Ranges.{scene_by}
use Rattle.queue_http.proofs.RangeLemmas.{new_job_fits}
use Rattle.queue_http.proofs.ranges.job_is_in_range.Goals as goal

pub returns : goal.returns
returns c =
    new_job_fits (scene_by c.args.config.now) c.args.job.now c.requires.range c.as_str.ensures.name c.as_str-2.ensures.name c.as_str-3.ensures.name
    c.priority_is_in_range.ensures c.limit_is_in_range.ensures
