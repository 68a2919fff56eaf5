use Rattle.std.proofs.Common.{inl, ap, ◌+◌}
use Rattle.texts.specs.declared.lines.Lines.{Lines}
use Rattle.sync_state.proofs.state_text.read_end.Goals as goal

pub returns-in_default-clause-refused : goal.returns-in_default-clause-refused
returns-in_default-clause-refused c =
    inl (record {
      none = λ line following one e. c.in_default.ensures.none line following one e tt tt;
      number_is = ap (λ (x : Lines). x.taken + 1) c.in_default.ensures.unchanged;
    })
