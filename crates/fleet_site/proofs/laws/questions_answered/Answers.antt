use Rattle.fleet_site.proofs.Serving as serving
use Rattle.fleet_site.proofs.Counted as counted
use Rattle.fleet_site.proofs.Arriving as arriving
use Rattle.fleet_site.proofs.Overall as overall
use Rattle.fleet_site.proofs.laws.questions_answered.Goals as goal

pub returns-clause-questions : goal.returns-clause-questions
returns-clause-questions c = serving.questions_answered

pub returns-clause-runs : goal.returns-clause-runs
returns-clause-runs c = counted.runs_are_turns

pub returns-clause-given : goal.returns-clause-given
returns-clause-given c = arriving.arrivals_are_given

pub returns-clause-memory : goal.returns-clause-memory
returns-clause-memory c = counted.memory_is_counted

pub returns-clause-sockets : goal.returns-clause-sockets
returns-clause-sockets c = overall.questions_answered_over_sockets
