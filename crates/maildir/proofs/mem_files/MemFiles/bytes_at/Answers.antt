use Rattle.std.proofs.Common.{Bor, List, ℕ, Option, None, Some, sym, ap, ◌∙◌}
use Rattle.std.specs.Option.{option_map}
use Rattle.maildir.specs.declared.folder.File.{File}
use Rattle.maildir.specs.Folders.{is_at, name_at}
use Rattle.maildir.specs.Slots.{files_in}
use Rattle.maildir.proofs.PlaceLemmas.{find_none}
use Rattle.maildir.proofs.SlotLemmas.{found_in_slot, nowhere_in}
use Rattle.maildir.proofs.mem_files.MemFiles.bytes_at.Goals as goal

pub returns-in_default : goal.returns-in_default
returns-in_default c =
    let at = name_at c.args.at in
    let slots = c.args.self.now.slots.items in
    let none = find_none (is_at at.place at.name) (files_in slots) (nowhere_in at.place at.name slots (sym c.spot_of.ensures ∙ c.in_default.is)) in
    sym (ap (option_map (λ (file : File). file.bytes)) none)

pub returns-in_err-file : goal.returns-in_err-file
returns-in_err-file c =
    let at = name_at c.args.at in
    let found = c.index.ensures ∙ sym (found_in_slot at.place at.name c.args.self.now.slots.items c.in-Some.i c.index.result.now (sym c.in-Some.ensures)) in
    ap (option_map (λ (bytes : Bor (List ℕ)). bytes.now)) c.from_residual.ensures
    ∙ ap (option_map (λ (file : File). file.bytes)) (c.in_err-file.ensures.value ∙ found)

pub returns : goal.returns
returns c =
    let at = name_at c.args.at in
    let found = c.index.ensures ∙ sym (found_in_slot at.place at.name c.args.self.now.slots.items c.in-Some.i c.index.result.now (sym c.in-Some.ensures)) in
    ap (λ (bytes : List ℕ). Some bytes) c.as_slice.ensures
    ∙ ap (option_map (λ (file : File). file.bytes)) (c.in_ok-file.ensures.value ∙ found)
