use Rattle.std.proofs.Common.{◌≡◌, ◌+◌, ◌++◌, ◌∷◌, [], List, ℕ, None, length, sym, ap, subst, ◌∙◌, arith}
use Rattle.std.specs.Prelude.{position}
use Rattle.std.proofs.lemmas.List.{length_push}
use Rattle.maildir.specs.declared.folder.File.{File}
use Rattle.maildir.specs.Folders.{AreApart, is_at, without}
use Rattle.maildir.specs.MemFiles.{files_of}
use Rattle.maildir.specs.Slots.{Reports, files_in, holds}
use Rattle.maildir.proofs.FileLemmas.{apart_added}
use Rattle.maildir.proofs.PlaceLemmas.{position_filtered}
use Rattle.maildir.proofs.SlotLemmas.{no_more, nowhere_of, pushed_in}
use Rattle.maildir.proofs.ReportedLemmas.{reported_pushed}
use Rattle.maildir.proofs.mem_files.MemFiles.put.Goals as goal

pub invariant_of-self : goal.invariant_of-self
invariant_of-self c =
    let file = c.args.file in
    let old : List File = files_of c.args.self.now in
    let mid = c.remove.new.self.slots.items in
    let gone : files_in mid ≡ without file.place file.name old =
    c.remove.ensures.files ∙ ap (λ (name : List ℕ). without file.place name old) c.as_slice.ensures in
    let absent : position (holds file.place file.name) mid ≡ None =
    nowhere_of file.place file.name mid (ap (position (is_at file.place file.name)) gone ∙ position_filtered (is_at file.place file.name) old) in
    let more = ap files_in c.push_reserved.ensures.items ∙ pushed_in mid file in
    record {
      apart = subst AreApart (sym (more ∙ ap (λ (l : List File). l ++ file ∷ []) gone)) (apart_added old file c.args.self.now.apart);
      reported = subst (Reports c.note.new.self) (sym c.push_reserved.ensures.items)
          (reported_pushed file mid c.args.key.items c.len.result c.remove.new.self.index c.note.new.self c.remove.new.self.reported absent c.requires.name (c.len.ensures ∙ c.remove.new.self.slots.ok.0) c.note.ensures);
      counted = ap (λ (k : ℕ). k + 1) c.remove.new.self.counted ∙ sym (ap length more ∙ length_push (files_in mid) file);
    }

pub returns : goal.returns
returns c =
    let file = c.args.file in
    ap files_in c.push_reserved.ensures.items ∙ pushed_in c.remove.new.self.slots.items file
    ∙ ap (λ (l : List File). l ++ file ∷ []) (c.remove.ensures.files ∙ ap (λ (name : List ℕ). without file.place name (files_of c.args.self.now)) c.as_slice.ensures)

pub overflow_add-self : goal.overflow_add-self
overflow_add-self c =
    let slots = c.remove.new.self.slots in
    let few = no_more slots.items in
    omega (arith, few, c.remove.new.self.counted, slots.ok.0, slots.ok.1, slots.small)
