-- The first of what is to come is handed out, and the rest is left.
use Rattle.std.proofs.Common.{◌<◌, length, Some, Ok, Err, ap, ◌∙◌, arith, rules}
use Rattle.std.proofs.lemmas.Result.{err_from_is_err_and}
use Rattle.pattern_file.specs.Faults.{placed}
use Rattle.pattern_file.specs.Readers.{handed}
use Rattle.pattern_file.proofs.Finding.{left_over, done, called, unknown}
use Rattle.pattern_file.proofs.unread.Unread.next_call.Goals as goal

pub returns-then-self-entry : goal.returns-then-self-entry
returns-then-self-entry c =
    let found = c.call_entry-entry.ensures in
    let turn = left_over _ c.args.self.now.numbers.now c.args.self.now.whole.0 _ _ found.bound.0 found.bound.1 found.put (omega arith) c.if-self-entry.true in
    record { value = ap handed c.at.ensures ∙ turn.0; moves = turn.1 }

pub returns-then-entry-self : goal.returns-then-entry-self
returns-then-entry-self c =
    let found = c.call_entry-entry.ensures in
    let turn = done _ c.args.self.now.numbers.now c.args.self.now.whole.0 _ _ found.bound.0 found.bound.1 found.put (omega arith) c.if-self-entry.false in
    record { value = turn.0; moves = turn.1 }

pub returns-in_err-name : goal.returns-in_err-name
returns-in_err-name c =
    let e = c.call_entry-entry.result in
    let found = c.call_entry-entry.ensures in
    let inside : e < length c.args.self.now.tags.now = search rules in
    let p = err_from_is_err_and c.from_residual.result c.from_residual.ensures.1 in
    let turn = unknown _ c.args.self.now.numbers.now c.args.self.now.whole.0 _ e found.bound.0 found.bound.1 found.put inside (found.call inside) _ (c.in_err-name.ensures ∙ ap (λ k. placed k e) c.try_from.ensures) in
    record { value = ap handed (p.1 ∙ ap Err p.2) ∙ turn.0; moves = turn.1 }

pub returns : goal.returns
returns c =
    let e = c.call_entry-entry.result in
    let found = c.call_entry-entry.ensures in
    let inside : e < length c.args.self.now.tags.now = search rules in
    let turn = called _ c.args.self.now.numbers.now c.args.self.now.whole.0 _ e found.bound.0 found.bound.1 found.put inside (found.call inside) _ (c.in_ok-name.ensures ∙ ap (λ k. placed k e) c.try_from.ensures) in
    record { value = ap (λ x. Ok (Some x)) c.call_at-item.ensures ∙ turn.0; moves = turn.1 }
