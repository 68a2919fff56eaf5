use Rattle.std.proofs.Common.{◌∙◌, Some, ap, sym}
use Rattle.clap.specs.Words.{found_of}
use Rattle.command_line.specs.Requests.{is_of_line}
use Rattle.command_line.proofs.FoundLemmas.{source-rows}
use Rattle.command_line.proofs.read.stands.Goals as goal

pub returns-in-Some-CommandLine : goal.returns-in-Some-CommandLine
returns-in-Some-CommandLine c =
    let source = sym c.in-Some-CommandLine.is ∙ c.value_source.ensures ∙ source-rows (found_of c.args.matches.now) c.args.id.now in
    ap (λ s. is_of_line (Some s)) (sym c.in-Some-CommandLine.field-0-is) ∙ ap is_of_line source

pub returns-in-Some-DefaultValue : goal.returns-in-Some-DefaultValue
returns-in-Some-DefaultValue c =
    let source = sym c.in-Some-DefaultValue.is ∙ c.value_source.ensures ∙ source-rows (found_of c.args.matches.now) c.args.id.now in
    ap (λ s. is_of_line (Some s)) (sym c.in-Some-DefaultValue.field-0-is) ∙ ap is_of_line source

pub returns-in-None : goal.returns-in-None
returns-in-None c =
    ap is_of_line (sym c.in-None.is ∙ c.value_source.ensures ∙ source-rows (found_of c.args.matches.now) c.args.id.now)
