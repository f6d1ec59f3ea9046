-- How far a run has come.
use Rattle.std.proofs.Common.{map}
use Rattle.guards.specs.Views.{question_of}
use Rattle.guards.proofs.Asking.{Running}
use Rattle.guards.proofs.runs.first_yes.Given as goal

abbrev pub invariant-loop-i : goal.invariant-loop-i
invariant-loop-i g l = Running g.H.Host.rule g.H.Host.moved l.initial.host l.host (map question_of l.questions) l.i
