-- What can be wrong with settings all of whose tables are as they should be.
use Rattle.std.specs.Prelude.{◌==◌, Bool, false, ◌&&◌, not, List, [], codes, Option, Some, None, Ok}
use Rattle.std.specs.List.{position}
use Rattle.std.specs.Option.{is_none}
use Rattle.std.specs.Str.{bytes_eq}
use Rattle.job_states.specs.Judged.{◌>>=◌}
use Rattle.toml_members.specs.Fault.{Judged}
use Rattle.queue_config.specs.declared.config.Class.{Class}
use Rattle.queue_config.specs.declared.config.Config.{Config}
use Rattle.queue_config.specs.declared.config.Limit.{Limit}
use Rattle.queue_config.specs.declared.config.Task.{Task}
use Rattle.queue_config.specs.Errors.{is_own_ancestor}
use Rattle.queue_config.specs.Fault.{unless_at}
use Rattle.queue_config.specs.Limits.{find_class}
use Rattle.queue_config.specs.Named.{first_clash, first_repeat}

-- ---- 7: the class of a task isn't declared

abbrev pub lacks_class : List Class → Task → Bool
lacks_class classes task = is_none (find_class task.class classes)

-- ---- 9: the group of a class has another `to` or `duration` than before

abbrev pub differ : Limit → Limit → Bool
differ a b = bytes_eq a.group b.group && not (a.to == b.to && a.duration == b.duration)

abbrev pub limits_clash : Option Limit → Option Limit → Bool
limits_clash None b = false
limits_clash (Some a) None = false
limits_clash (Some a) (Some b) = differ a b

abbrev pub clash : Class → Class → Bool
clash a b = limits_clash a.limit b.limit

-- ---- the whole

-- the first thing that is wrong, in the order of the numbers
unfoldable pub judged_whole : Config → Judged Config
judged_whole config =
    unless_at 6 (codes "classes") (codes "name") (first_repeat (λ class. class.name) config.classes) >>= λ _.
    unless_at 6 (codes "errors") (codes "name") (first_repeat (λ error. error.name) config.errors) >>= λ _.
    unless_at 6 (codes "tasks") (codes "key") (first_repeat (λ task. task.key) config.tasks) >>= λ _.
    unless_at 7 (codes "tasks") (codes "class") (position (lacks_class config.classes) config.tasks) >>= λ _.
    unless_at 8 (codes "errors") (codes "parent") (position (is_own_ancestor config.errors) config.errors) >>= λ _.
    unless_at 9 (codes "classes") (codes "limit") (first_clash clash [] config.classes) >>= λ _.
    Ok config
