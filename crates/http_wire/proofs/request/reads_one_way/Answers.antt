use Rattle.http_wire.proofs.StreamLaws.{one_request, request_goes_on, request_finished, request_not_refused, request_more}
use Rattle.http_wire.proofs.request.reads_one_way.Goals as goal

pub returns-clause-one : goal.returns-clause-one
returns-clause-one c = one_request

pub returns-clause-goes_on : goal.returns-clause-goes_on
returns-clause-goes_on c = request_goes_on

pub returns-clause-finished : goal.returns-clause-finished
returns-clause-finished c = request_finished

pub returns-clause-taken : goal.returns-clause-taken
returns-clause-taken c = request_not_refused

pub returns-clause-longer : goal.returns-clause-longer
returns-clause-longer c = request_more
