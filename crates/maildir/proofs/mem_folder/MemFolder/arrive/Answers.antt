use Rattle.std.proofs.Common.{◌≡◌, false, sym, subst, ap, ◌∙◌}
use Rattle.std.specs.List.{list_any}
use Rattle.device.specs.Calls.{Seen}
use Rattle.maildir.specs.declared.folder.File.{File}
use Rattle.maildir.specs.declared.folder.Place.TheVariants.{Cur}
use Rattle.maildir.specs.Folders.{Stored, is_at}
use Rattle.maildir.specs.Gains.{Adds, Gains}
use Rattle.maildir.specs.MemFolders.{seen_of, stored_in}
use Rattle.maildir.proofs.GainLemmas.{one_added, one_arrives, put_after_all}
use Rattle.maildir.proofs.mem_folder.MemFolder.arrive.Goals as goal

pub returns-clause-ok : goal.returns-clause-ok
returns-clause-ok c =
    let file : File = record { place = Cur; name = c.args.name; bytes = c.args.bytes } in
    let none : list_any (is_at Cur c.args.name) (stored_in c.args.self.now).files ≡ false = sym c.has_file.ensures ∙ c.if-has_file.false in
    c.in_ok-put.ensures.ok ∙ ap (λ (s : Stored). let seen : Seen Stored = record (seen_of c.args.self.now) { stored = s } in seen) (put_after_all (stored_in c.args.self.now) file none)

pub returns-clause-gains : goal.returns-clause-gains
returns-clause-gains c =
    let file : File = record { place = Cur; name = c.args.name; bytes = c.args.bytes } in
    let none : list_any (is_at Cur c.args.name) (stored_in c.args.self.now).files ≡ false = sym c.has_file.ensures ∙ c.if-has_file.false in
    let now = ap (λ (seen : Seen Stored). seen.stored) c.in_ok-put.ensures.ok ∙ put_after_all (stored_in c.args.self.now) file none in
    λ visitors others waits octets foreign. subst (Gains visitors (stored_in c.args.self.now)) (sym now) (one_arrives visitors (stored_in c.args.self.now) file others waits octets foreign none)

pub returns-clause-adds : goal.returns-clause-adds
returns-clause-adds c =
    let file : File = record { place = Cur; name = c.args.name; bytes = c.args.bytes } in
    let none : list_any (is_at Cur c.args.name) (stored_in c.args.self.now).files ≡ false = sym c.has_file.ensures ∙ c.if-has_file.false in
    let now = ap (λ (seen : Seen Stored). seen.stored) c.in_ok-put.ensures.ok ∙ put_after_all (stored_in c.args.self.now) file none in
    λ visitors others waits octets foreign. subst (Adds visitors (stored_in c.args.self.now)) (sym now) (one_added visitors (stored_in c.args.self.now) file others waits octets foreign none)
