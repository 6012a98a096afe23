use Rattle.node_routes.proofs.Explaining.{no_error_is_adding_up, meeting_is_explaining}
use Rattle.node_routes.proofs.laws.meeting_is_explaining.Goals as goal

pub returns-clause-error : goal.returns-clause-error
returns-clause-error c = no_error_is_adding_up

pub returns-clause-meeting : goal.returns-clause-meeting
returns-clause-meeting c = meeting_is_explaining
