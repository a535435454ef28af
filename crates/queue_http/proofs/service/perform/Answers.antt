use Rattle.queue_http.proofs.Turns.{has_reply, idle_again, idle_still, is_open, performs, still_standing, turned_down}
use Rattle.queue_http.proofs.service.perform.Goals as goal

pub commit-requires-clause-open : goal.commit-requires-clause-open
commit-requires-clause-open g c = is_open c.args.seat c.args.now c.args.engine.now c.begin.new.self c.args.command c.in-Ok.ensures.begins

pub commit-requires-clause-standing : goal.commit-requires-clause-standing
commit-requires-clause-standing g c = still_standing c.args.engine.now c.begin.new.self _ c.in-Ok.ensures.standing c.requires.standing

pub returns-in-Ok-clause-performs : goal.returns-in-Ok-clause-performs
returns-in-Ok-clause-performs g c =
    performs c.args.seat c.args.now c.args.engine.now c.begin.new.self c.commit.new.engine _ _ c.args.command c.commit.result c.requires.idle
    c.in-Ok.ensures.begins c.in-Ok.ensures.standing c.commit.ensures.ends

pub returns-in-Ok-clause-idle : goal.returns-in-Ok-clause-idle
returns-in-Ok-clause-idle g c =
    idle_again c.args.seat c.args.now c.args.engine.now c.begin.new.self c.commit.new.engine _ _ c.args.command c.commit.result c.requires.idle
    c.in-Ok.ensures.begins c.in-Ok.ensures.standing c.commit.ensures.ends c.requires.standing

pub refuse-requires : goal.refuse-requires
refuse-requires g c =
    has_reply c.args.seat c.args.now c.args.engine.now c.begin.new.self c.args.command c.in-Err.refused c.requires.idle c.in-Err.ensures.begins

pub returns-in-Err-clause-performs : goal.returns-in-Err-clause-performs
returns-in-Err-clause-performs g c =
    turned_down c.args.seat c.args.now c.args.engine.now c.begin.new.self c.args.command c.in-Err.refused c.requires.idle c.in-Err.ensures.begins
    _ c.refuse.result c.refuse.ensures.reply c.in-Err.ensures.standing

pub returns-in-Err-clause-idle : goal.returns-in-Err-clause-idle
returns-in-Err-clause-idle g c =
    idle_still c.args.seat c.args.now c.args.engine.now c.begin.new.self c.args.command c.in-Err.refused c.requires.idle c.in-Err.ensures.begins
