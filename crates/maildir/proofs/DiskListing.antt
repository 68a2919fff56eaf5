-- From the calls that read names to what is stored.
use Rattle.std.proofs.Common.{◌≡◌, ◌∙◌, ◌++◌, Bool, true, false, cond, All, List, [], ◌∷◌, get_or, length, map, filter, None, refl, sym, ap, subst, append-nil, suc, arith}
use Rattle.std.specs.Prelude.{AllPairs, Option, Result, Ok, Err, is_none, IfOk}
use Rattle.std.specs.List.Sorted.{IsPermutation}
use Rattle.std.proofs.lemmas.Bool.{false≢true}
use Rattle.std.proofs.lemmas.List.{map-append}
use Rattle.std.proofs.lemmas.List.Elements.{filter-append, All-head, All-tail}
use Rattle.std.proofs.lemmas.List.Sorted.{IsPermutation-refl, IsPermutation-sym, IsPermutation-trans, IsPermutation-cons, IsPermutation-map, IsPermutation-middle, IsPermutation-append}
use Rattle.maildir.specs.declared.disk_call.DiskDeed.TheVariants.{Listed}
use Rattle.maildir.specs.declared.found_names.FoundNames.{FoundNames}
use Rattle.maildir.specs.declared.folder.File.{File}
use Rattle.maildir.specs.declared.folder.FileName.{FileName}
use Rattle.maildir.specs.declared.folder.Place.{Place}
use Rattle.maildir.specs.declared.folder.Place.TheVariants.{New, Cur}
use Rattle.maildir.specs.DiskEvents.{IsListed, is_in}
use Rattle.maildir.specs.DiskFolders.{FolderParts, Gained, KeptWord, ListsAll, looked, noted, standing}
use Rattle.maildir.specs.Folders.{Stored, is_place, name_of_file}
use Rattle.maildir.specs.Gains.{Adds, others}
use Rattle.maildir.proofs.GainLemmas.{adds_more, adds_none}

-- ---- others have added files

pub gained_none : (f : FolderParts) → Gained f f
gained_none f = record { disk = refl; was_honest = λ k. k; adds = λ k. adds_none others (standing f).stored }

pub gained_more : (a b d : FolderParts) → Gained a b → Gained b d → Gained a d
gained_more a b d g h = record {
  disk = h.disk ∙ g.disk;
  was_honest = λ k. g.was_honest (h.was_honest k);
  adds = λ k. adds_more others (standing a).stored (standing b).stored (standing d).stored (g.adds (h.was_honest k)) (h.adds k);
}

pairs_after : {X : Type 0} (R : X → X → Type 0) (xs ys : List X) → AllPairs R (xs ++ ys) → AllPairs R ys
pairs_after R [] ys h = h
pairs_after R (x ∷ xs) ys h = pairs_after R xs ys (λ i j d less below. h (suc i) (suc j) d (omega arith) (omega arith))

adds_listed : (place : Place) (names : List FileName) (arrivals : List File) (s : Stored) → IsListed place names arrivals s → Adds others s (record s { files = s.files ++ arrivals })
adds_listed place names arrivals s l = record {
  gains = record {
    more = arrivals;
    files = IsPermutation-refl (s.files ++ arrivals);
    arrivals = l.arrived;
    apart = pairs_after (λ a b. name_of_file a ≡ name_of_file b → ⊥) s.files arrivals l.apart;
    is_there = refl;
    copy = refl;
    meta = refl;
    nobody = λ alone. absurd (false≢true alone);
  };
  following = refl;
}

pub gained_listed : (place : Place) (is_ok : Bool) (names : List FileName) (f : FolderParts) → Gained f (noted (Listed place) is_ok [] [] names f)
gained_listed place true names f = record { disk = refl; was_honest = λ k. k.0; adds = λ k. adds_listed place names _ (standing f).stored (k.1 refl) }
gained_listed place false names f = record { disk = refl; was_honest = λ k. k.0; adds = λ k. adds_none others (standing f).stored }

-- ---- both folders are all

not_in_new : (place : Place) → is_place Cur place ≡ true → is_place New place ≡ false
not_in_new New e = absurd (false≢true e)
not_in_new Cur e = refl

none_in_new : (files : List File) → All (λ file. is_in Cur file ≡ true) files → filter (is_in New) files ≡ []
none_in_new [] here = refl
none_in_new (file ∷ files) here =
    let none : is_in New file ≡ false = not_in_new file.place (All-head (λ (f : File). is_in Cur f ≡ true) file files here) in
    ap (λ (b : Bool). cond b (file ∷ filter (is_in New) files) (filter (is_in New) files)) none
    ∙ none_in_new files (All-tail (λ (f : File). is_in Cur f ≡ true) file files here)

either_more : (place : Place) (file : File) (files new cur : List File) → IsPermutation files (new ++ cur)
    → IsPermutation (file ∷ files) (cond (is_place New place) (file ∷ new) new ++ cond (is_place Cur place) (file ∷ cur) cur)
either_more New file files new cur h = IsPermutation-cons file files (new ++ cur) h
either_more Cur file files new cur h = IsPermutation-trans (file ∷ files) (file ∷ (new ++ cur)) (new ++ file ∷ cur) (IsPermutation-cons file files (new ++ cur) h)
    (IsPermutation-sym (new ++ file ∷ cur) (file ∷ (new ++ cur)) (IsPermutation-middle new file cur))

in_either : (files : List File) → IsPermutation files (filter (is_in New) files ++ filter (is_in Cur) files)
in_either [] = IsPermutation-refl []
in_either (file ∷ files) = either_more file.place file files (filter (is_in New) files) (filter (is_in Cur) files) (in_either files)

names_of_both : (files : List File) (news curs : List FileName) → IsPermutation (map name_of_file (filter (is_in New) files)) news
    → IsPermutation (map name_of_file (filter (is_in Cur) files)) curs → IsPermutation (map name_of_file files) (news ++ curs)
names_of_both files news curs n c =
    let both : List File = filter (is_in New) files ++ filter (is_in Cur) files in
    IsPermutation-trans (map name_of_file files) (map name_of_file both) (news ++ curs) (IsPermutation-map name_of_file files both (in_either files))
    (subst (λ (l : List FileName). IsPermutation l (news ++ curs)) (sym (map-append name_of_file (filter (is_in New) files) (filter (is_in Cur) files)))
    (IsPermutation-append (map name_of_file (filter (is_in New) files)) news (map name_of_file (filter (is_in Cur) files)) curs n c))

pub both_listed : (news curs : List FileName) (f : FolderParts)
    → let b : FolderParts = noted (Listed New) true [] [] news f in let d : FolderParts = noted (Listed Cur) true [] [] curs b in KeptWord d → ListsAll (news ++ curs) d
both_listed news curs f k =
    let before : List File = get_or f.world.arrivals (length f.events) [] in
    let after : List File = get_or f.world.arrivals (suc (length f.events)) [] in
    let files : List File = (standing f).stored.files ++ before in
    let n = k.0.1 refl in
    let c = k.1 refl in
    let stayed : filter (is_in New) (files ++ after) ≡ filter (is_in New) files = filter-append (is_in New) files after
    ∙ ap (λ (l : List File). filter (is_in New) files ++ l) (none_in_new after c.here) ∙ append-nil (filter (is_in New) files) in (
      c.is_there,
      names_of_both (files ++ after) news curs (subst (λ (l : List File). IsPermutation (map name_of_file l) news) (sym stayed) n.names) c.names,
      c.apart,
    )

-- ---- as the calls answer

pub gained_looked : (is_there : Bool) (a b : FolderParts) → b ≡ noted (looked is_there) true [] [] [] a → Gained a b
gained_looked true a b is = subst (Gained a) (sym is) (record { disk = refl; was_honest = λ k. k.0; adds = λ k. adds_none others (standing a).stored })
gained_looked false a b is = subst (Gained a) (sym is) (record { disk = refl; was_honest = λ k. k.0; adds = λ k. adds_none others (standing a).stored })

pub gained_by : (place : Place) (is_ok : Bool) (names : List FileName) (a b : FolderParts) → b ≡ noted (Listed place) is_ok [] [] names a → Gained a b
gained_by place is_ok names a b is = subst (Gained a) (sym is) (gained_listed place is_ok names a)

pub listed_by_both : {E : Type 0} (answer : Result FoundNames E) (news curs : List FileName) (beyond_new beyond_cur : Option FileName) (a b d : FolderParts)
    → b ≡ noted (Listed New) (is_none beyond_new) [] [] news a → d ≡ noted (Listed Cur) (is_none beyond_cur) [] [] curs b
    → IfOk answer (λ both. both.names.items ≡ news ++ curs) → IfOk answer (λ both. both.unreached ≡ None → (beyond_new ≡ None) × (beyond_cur ≡ None))
    → IfOk answer (λ found. found.unreached ≡ None → KeptWord d → ListsAll found.names.items d)
listed_by_both (Err error) news curs beyond_new beyond_cur a b d new cur names reached = tt
listed_by_both (Ok both) news curs beyond_new beyond_cur a b d new cur names reached = λ none k.
    let is = reached none in
    let new' : b ≡ noted (Listed New) true [] [] news a = new ∙ ap (λ (o : Option FileName). noted (Listed New) (is_none o) [] [] news a) is.0 in
    let cur' : d ≡ noted (Listed Cur) true [] [] curs (noted (Listed New) true [] [] news a) = cur
    ∙ ap (λ (o : Option FileName). noted (Listed Cur) (is_none o) [] [] curs b) is.1 ∙ ap (λ (f : FolderParts). noted (Listed Cur) true [] [] curs f) new' in
    subst (λ (l : List FileName). ListsAll l d) (sym names) (subst (ListsAll (news ++ curs)) (sym cur') (both_listed news curs a (subst KeptWord cur' k)))
