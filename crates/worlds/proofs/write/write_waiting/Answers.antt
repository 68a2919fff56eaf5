use Rattle.std.proofs.Common.{ℕ, List, ◌++◌, ap, ◌∙◌, string_bytes, arith}
use Rattle.std.specs.List.{flat_map}
use Rattle.std.proofs.lemmas.List.{take_all}
use Rattle.worlds.specs.declared.world.WaitingFile.{WaitingFile}
use Rattle.worlds.proofs.FileTexts.{file_line, lines_of_files}
use Rattle.worlds.proofs.write.write_waiting.Goals as goal

pub returns : goal.returns
returns c =
    let old = string_bytes c.args.text.now in
    let all = take_all c.loop-file.file-index c.args.files.now (let past = c.loop-file-test.false in omega arith) in
    c.loop-file.invariant
    ∙ ap (λ (files : List WaitingFile). old ++ flat_map file_line files) all
    ∙ ap (λ (l : List ℕ). old ++ l) (lines_of_files c.args.files.now)
