use Rattle.std.proofs.Common.{ap, ◌∙◌, not, option_map, string_bytes}
use Rattle.std.specs.List.{find}
use Rattle.channels.specs.Chosen.{is_known}
use Rattle.channels.proofs.chosen.unknown_name.Goals as goal

pub returns-in-Named : goal.returns-in-Named
returns-in-Named c =
    rw c.in-Named.is
    (c.first_unknown.ensures ∙ ap (λ names. option_map string_bytes (find (λ name. not (is_known c.args.config.now (string_bytes name))) names)) c.deref.ensures.value)
