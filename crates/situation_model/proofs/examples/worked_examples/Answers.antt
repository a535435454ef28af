-- The examples, by computing.
use Rattle.std.proofs.Common.{refl}
use Rattle.std.specs.Str.{is_utf8, chars}
use Rattle.situation_model.proofs.examples.worked_examples.Goals as goal

pub returns-clause-polls : goal.returns-clause-polls
unfolding is_utf8 chars lib.Utf8.encode
returns-clause-polls c = (refl, refl)

pub returns-clause-locked : goal.returns-clause-locked
unfolding is_utf8 chars lib.Utf8.encode
returns-clause-locked c = (refl, refl)

pub returns-clause-doubt : goal.returns-clause-doubt
unfolding is_utf8 chars lib.Utf8.encode
returns-clause-doubt c = (refl, refl, refl)

pub returns-clause-taken_in : goal.returns-clause-taken_in
unfolding is_utf8 chars lib.Utf8.encode
returns-clause-taken_in c = (refl, refl, refl)

pub returns-clause-left_out : goal.returns-clause-left_out
unfolding is_utf8 chars lib.Utf8.encode
returns-clause-left_out c = (refl, refl, refl)
