-- What others add to the folder of a mailbox arrives in the mailbox.
use Rattle.std.proofs.Common.{◌≡◌, ◌<◌, ◌≤◌, ℕ, Bool, true, List, ◌++◌, filter, map, ap, arith, subst, ◌∙◌}
use Rattle.std.specs.List.Sorted.{IsPermutation}
use Rattle.std.proofs.lemmas.List.{map-append}
use Rattle.std.proofs.lemmas.List.Elements.{All-map, All-weaker, filter-append}
use Rattle.std.proofs.lemmas.List.Sorted.{IsPermutation-append_left, IsPermutation-map, IsPermutation-sym, IsPermutation-trans}
use Rattle.mailcore.specs.Content.{mark_of}
use Rattle.mailcore.specs.Mailboxes.{Mailbox}
use Rattle.mailcore.specs.Stores.{Store, Waiting}
use Rattle.mailcore.specs.declared.side.Side.TheVariants as side
use Rattle.outside.specs.BoxArrivals.{Arrives}
use Rattle.rules.specs.Opening.{AreBytes, IsFile}
use Rattle.mailcore.specs.Visitors.{AreOctets, IsForeign, Visitors}
use Rattle.mailcore.specs.declared.keywords.Keyword.{Keyword}
use Rattle.maildir.specs.declared.folder.File.{File}
use Rattle.maildir.specs.Folders.{Stored}
use Rattle.maildir.specs.Gains.{Adds, Gains, IsArrival}
use Rattle.maildir.specs.Names.{is_waiting}
use Rattle.maildir.proofs.PermutedLemmas.{passing_in_any_order}
use Rattle.near_box.specs.Mailboxes.{IsMailbox, is_before, near_of, waiting_files, waiting_of}
use Rattle.near_box.proofs.GainedLemmas.{store_added, store_gained}
use Rattle.near_box.proofs.KeptLemmas.{filter_all}
use Rattle.near_box.proofs.RangeLemmas.{flags_by_name-lt}
use Rattle.near_box.proofs.SortingLemmas.{sorted_permutes}

abbrev waits : File → Bool
waits file = is_waiting file.name

-- those that waited, and those that came, are those that wait
waiting_gathered : (v : Visitors) (s s' : Stored) (gains : Gains v s s') → IsPermutation (waiting_files s.files ++ gains.more) (waiting_files s'.files)
waiting_gathered v s s' gains =
    let more : List File = gains.more in
    let all_wait : filter waits (s.files ++ more) ≡ filter waits s.files ++ more =
    filter-append waits s.files more
    ∙ ap (λ (l : List File). filter waits s.files ++ l) (filter_all waits more (All-weaker (IsArrival v.ours s.files) (λ y. waits y ≡ true) (λ y a. a.waits) more gains.arrivals)) in
    IsPermutation-trans (waiting_files s.files ++ more) (filter waits s.files ++ more) (waiting_files s'.files)
    (IsPermutation-append_left more (waiting_files s.files) (filter waits s.files) (IsPermutation-sym (filter waits s.files) (waiting_files s.files) (sorted_permutes is_before (filter waits s.files))))
    (IsPermutation-trans (filter waits s.files ++ more) (filter waits s'.files) (waiting_files s'.files)
    (subst (λ (l : List File). IsPermutation l (filter waits s'.files)) all_wait (passing_in_any_order waits (s.files ++ more) s'.files gains.files))
    (sorted_permutes is_before (filter waits s'.files)))

-- a near mailbox stores any bytes
file_bytes : (bytes : List ℕ) → AreOctets bytes → AreBytes 0 bytes
file_bytes bytes octets = All-weaker (λ b. b < 256) (λ b. (0 ≤ b) × (b < 256)) (λ b below. (omega arith, below)) bytes octets

-- where its messages are the same
arrives_beside : (v : Visitors) (fresh : ℕ) (keywords : List Keyword) (s s' : Stored) → (near_of fresh keywords s').store ≡ (near_of fresh keywords s).store → Gains v s s'
    → Arrives side.Near v.ours v.alone (near_of fresh keywords s) (near_of fresh keywords s')
arrives_beside v fresh keywords s s' same gains = record {
  comes = record {
    files = map (waiting_of keywords) gains.more;
    waiting = map (waiting_of keywords) (waiting_files s'.files);
    gathered = subst (λ (l : List Waiting). IsPermutation l (map (waiting_of keywords) (waiting_files s'.files))) (map-append (waiting_of keywords) (waiting_files s.files) gains.more)
        (IsPermutation-map (waiting_of keywords) (waiting_files s.files ++ gains.more) (waiting_files s'.files) (waiting_gathered v s s' gains));
    sound = All-map IsFile (waiting_of keywords) gains.more
        (All-weaker (IsArrival v.ours s.files) (λ y. IsFile (waiting_of keywords y)) (λ y a. record { in_set = flags_by_name-lt keywords y.name; bytes = file_bytes y.bytes a.octets }) gains.more gains.arrivals);
    foreign = All-map (λ w. IsForeign v.ours (mark_of w.bytes)) (waiting_of keywords) gains.more
        (All-weaker (IsArrival v.ours s.files) (λ y. IsForeign v.ours (mark_of (waiting_of keywords y).bytes)) (λ y a. a.foreign) gains.more gains.arrivals);
    now = ap (λ (store : Store). let b : Mailbox = record { store = store; waiting = map (waiting_of keywords) (waiting_files s'.files) } in b) same;
  };
  nobody = λ alone. ap (near_of fresh keywords) (gains.nobody alone);
}

pub gained_arrives : (v : Visitors) (fresh : ℕ) (keywords : List Keyword) (s s' : Stored) → IsMailbox fresh s → Gains v s s' → Arrives side.Near v.ours v.alone (near_of fresh keywords s) (near_of fresh keywords s')
gained_arrives v fresh keywords s s' is gains = arrives_beside v fresh keywords s s' (store_gained v fresh keywords s s' is gains) gains

-- of any folder, where the files follow the others
pub added_arrives : (v : Visitors) (fresh : ℕ) (keywords : List Keyword) (s s' : Stored) → Adds v s s' → Arrives side.Near v.ours v.alone (near_of fresh keywords s) (near_of fresh keywords s')
added_arrives v fresh keywords s s' adds = arrives_beside v fresh keywords s s' (store_added v fresh keywords s s' adds) adds.gains
