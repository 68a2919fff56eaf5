use Rattle.std.proofs.Common.{◌≡◌, List, ℕ, Option, Some, None, get_or, length, set, sym, ap, subst, ◌∙◌, map}
use Rattle.std.specs.Prelude.{position}
use Rattle.std.specs.Option.{option_map}
use Rattle.std.proofs.lemmas.List.{length-map}
use Rattle.maildir.specs.declared.folder.File.{File}
use Rattle.maildir.specs.declared.folder.FileName.{FileName}
use Rattle.maildir.specs.Folders.{AreApart, is_at, left, moved, name_at, without}
use Rattle.maildir.specs.MemFiles.{files_of}
use Rattle.maildir.specs.Slots.{Reports, files_in, holds, under}
use Rattle.maildir.proofs.FileLemmas.{apart_moved, left_apart, moved_nowhere, renamed_to_itself}
use Rattle.maildir.proofs.PlaceLemmas.{position_filtered}
use Rattle.maildir.proofs.SlotLemmas.{moved_in, none_default, nowhere_in, nowhere_of}
use Rattle.maildir.proofs.ReportedLemmas.{reported_renamed}
use Rattle.maildir.proofs.mem_files.MemFiles.rename.Goals as goal

pub returns-then-is_same : goal.returns-then-is_same
returns-then-is_same c =
    let from = name_at c.args.from in
    let old = files_of c.args.self.now in
    sym (subst (λ (to : FileName). map (moved from to) (left (Some from) to.place to.name old) ≡ old) (c.is_same.ensures.same c.if-is_same.true) (renamed_to_itself from old))

pub returns-in_default : goal.returns-in_default
returns-in_default c =
    let from = name_at c.args.from in
    let to = c.args.to in
    let old : List File = files_of c.args.self.now in
    let gone = c.remove.ensures.files ∙ ap (λ (name : List ℕ). without to.place name old) c.as_slice.ensures in
    let same = gone ∙ sym (left_apart from to (c.is_same.ensures.other c.if-is_same.false) old) in
    let mid = c.remove.new.self.slots.items in
    sym (moved_nowhere from to (files_in mid) (nowhere_in from.place from.name mid (sym c.spot_of.ensures ∙ c.in_default.is))) ∙ ap (λ (l : List File). map (moved from to) l) same

pub returns : goal.returns
returns c =
    let from = name_at c.args.from in
    let to = c.args.to in
    let i = c.in-Some.i in
    let old : List File = files_of c.args.self.now in
    let mid = c.remove.new.self.slots.items in
    let gone = c.remove.ensures.files ∙ ap (λ (name : List ℕ). without to.place name old) c.as_slice.ensures in
    let same = gone ∙ sym (left_apart from to (c.is_same.ensures.other c.if-is_same.false) old) in
    let found : position (holds from.place from.name) mid ≡ Some i = sym c.in-Some.ensures in
    let slot : c.rename_in.new.slot ≡ option_map (under to) (get_or mid i None) =
    c.rename_in.ensures ∙ ap (option_map (under to)) (none_default (holds from.place from.name) mid i c.index_mut.result.now found c.index_mut.ensures.value) in
    ap (λ (s : Option File). files_in (set mid i s)) slot ∙ moved_in from to mid i c.remove.new.self.apart found ∙ ap (λ (l : List File). map (moved from to) l) same

pub invariant_of-self : goal.invariant_of-self
invariant_of-self c =
    let from = name_at c.args.from in
    let to = c.args.to in
    let i = c.in-Some.i in
    let old : List File = files_of c.args.self.now in
    let mid = c.remove.new.self.slots.items in
    let gone : files_in mid ≡ without to.place to.name old = c.remove.ensures.files ∙ ap (λ (name : List ℕ). without to.place name old) c.as_slice.ensures in
    let same = gone ∙ sym (left_apart from to (c.is_same.ensures.other c.if-is_same.false) old) in
    let found : position (holds from.place from.name) mid ≡ Some i = sym c.in-Some.ensures in
    let absent : position (holds to.place to.name) mid ≡ None =
    nowhere_of to.place to.name mid (ap (position (is_at to.place to.name)) gone ∙ position_filtered (is_at to.place to.name) old) in
    let slot : c.rename_in.new.slot ≡ option_map (under to) (get_or mid i None) =
    c.rename_in.ensures ∙ ap (option_map (under to)) (none_default (holds from.place from.name) mid i c.index_mut.result.now found c.index_mut.ensures.value) in
    let now_is = ap (λ (s : Option File). files_in (set mid i s)) slot ∙ moved_in from to mid i c.remove.new.self.apart found in
    record {
      apart = subst AreApart (sym (now_is ∙ ap (λ (l : List File). map (moved from to) l) same)) (apart_moved from to old c.args.self.now.apart);
      reported = subst (λ (s : Option File). Reports c.note.new.self (set mid i s)) (sym slot)
          (reported_renamed from to mid i c.args.key.items c.remove.new.self.index c.forget.new.self c.note.new.self
          c.remove.new.self.apart c.remove.new.self.reported found absent c.forget.ensures.gone c.requires.name c.note.ensures);
      counted = c.remove.new.self.counted ∙ sym (ap length now_is ∙ length-map (files_in mid) (moved from to));
    }
