use Rattle.std.proofs.Common.{◌∙◌}
use Rattle.std.proofs.lemmas.Result.{err_from_is_err_and}
use Rattle.mailcore.specs.FlagNames.{letters_of}
use Rattle.sync_state.proofs.AddingLemmas.{adds_none}
use Rattle.sync_state.proofs.words.push_letters.Goals as goal

pub returns-in_err-push : goal.returns-in_err-push
returns-in_err-push c =
    let failed = err_from_is_err_and c.from_residual.result c.from_residual.ensures.1 in
    adds_none c.from_residual.result failed.0 c.args.text.now.items (letters_of c.args.flags) c.loop-letter.yielded c.push.new.self.items failed.1
    (c.in_err-push.ensures.items ∙ c.loop-letter.invariant.1)
