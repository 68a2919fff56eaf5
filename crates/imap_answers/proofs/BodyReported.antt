-- The body that replies report: an earlier one counts if no later one is reported, and none is if a part cannot be taken.
use Rattle.std.proofs.Common.{◌≡◌, ℕ, ◌+◌, ◌-◌, ◌<◌, ◌≤◌, Bool, true, false, List, [], ◌∷◌, refl, sym, ◌∙◌, ap, subst, take, drop, length, get_or, Option, Some, None, take-append-drop, length-drop, arith, Err}
use Rattle.std.specs.Prelude.{if◌then◌else◌}
use Rattle.std.specs.List.{fold}
use Rattle.std.specs.Option.{option_map}
use Rattle.std.proofs.lemmas.List.{drop_all, drop-drop}
use Rattle.std.proofs.lemmas.List.Sums.{fold-append, fold_more}
use Rattle.wire_strings.specs.declared.string.WireString.{WireString}
use Rattle.imap_replies.specs.declared.reply.Reply.{Reply}
use Rattle.imap_replies.specs.declared.reply.Reply.TheVariants.{Continue, Tagged, Notice, Capability, Enabled, List as Listed, Flags, Exists, Expunge, Fetch, Other, OtherNumbered}
use Rattle.imap_replies.specs.declared.fetch.FetchItem.{FetchItem}
use Rattle.imap_replies.specs.declared.fetch.FetchItem.TheVariants as items
use Rattle.imap_session.specs.Heard.{AreReplies}
use Rattle.imap_link.specs.declared.fault.FarFault.{FarFault}
use Rattle.imap_link.specs.declared.fault.FarFault.TheVariants as faults
use Rattle.imap_answers.specs.declared.bodies.FoundBody.{FoundBody}
use Rattle.imap_answers.specs.Bodies.{body_at, body_bytes, body_more, body_in, is_reported, bodies_more, body_reported, found_at}
use Rattle.imap_answers.specs.Fetching.{uid_of}
use Rattle.imap_answers.specs.Readings.{ReadsAs}
use Rattle.imap_answers.specs.Spoken.{Speaks, IsFirst}
use Rattle.imap_link.proofs.BufferExits.{slice_is}
use Rattle.imap_answers.proofs.Left.{no_left}

-- where a part cannot be read, the whole cannot
pub reads_on : (T U X Y : Type 0) (view : T → X) (see : U → Y) (x : Option X) (y : Option Y) → (x ≡ None → y ≡ None) → (f : FarFault) → ReadsAs {T = T} view (Err f) x → ReadsAs {T = U} see (Err f) y
reads_on T U X Y view see x y so faults.Stopped h = absurd h
reads_on T U X Y view see x y so faults.Refused h = absurd h
reads_on T U X Y view see x y so faults.Protocol h = so h
reads_on T U X Y view see x y so faults.TooLong h = absurd h
reads_on T U X Y view see x y so faults.NoRev2 h = absurd h
reads_on T U X Y view see x y so faults.ReadOnly h = absurd h
reads_on T U X Y view see x y so faults.NoMemory h = tt

-- ---- what cannot be taken stays so

pub in_none : (list : List FetchItem) → body_in None list ≡ None
in_none [] = refl
in_none (i ∷ is) = in_none is

if_none : (b : Bool) (list : List FetchItem) → (if b then body_in None list else None) ≡ None
if_none true list = in_none list
if_none false list = refl

more_none : (uid : ℕ) (r : Reply) → bodies_more uid None r ≡ None
more_none uid (Fetch n list) = if_none (is_reported uid (uid_of list)) list
more_none uid (Continue text) = refl
more_none uid (Tagged tag status text) = refl
more_none uid (Notice kind text) = refl
more_none uid (Capability names) = refl
more_none uid (Enabled names) = refl
more_none uid (Listed attributes delimiter name) = refl
more_none uid (Flags flags) = refl
more_none uid (Exists n) = refl
more_none uid (Expunge n) = refl
more_none uid (Other word text) = refl
more_none uid (OtherNumbered n event text) = refl

reported_none : (uid : ℕ) (rs : List Reply) → fold (bodies_more uid) None rs ≡ None
reported_none uid [] = refl
reported_none uid (r ∷ rs) = ap (λ (x : Option (Option (List ℕ))). fold (bodies_more uid) x rs) (more_none uid r) ∙ reported_none uid rs

-- where a beginning cannot be taken, nothing can
stops_in : (i : ℕ) (reported : Option (Option (List ℕ))) (list : List FetchItem) → fold body_more reported (take i list) ≡ None → body_in reported list ≡ None
stops_in i reported list e =
    ap (fold body_more reported) (sym (take-append-drop i list)) ∙ fold-append body_more reported (take i list) (drop i list)
    ∙ ap (λ (x : Option (Option (List ℕ))). fold body_more x (drop i list)) e ∙ in_none (drop i list)

pub item_stops : (reported : Option (Option (List ℕ))) (list : List FetchItem) (i : ℕ) (item : FetchItem) (so_far : Option (Option (List ℕ))) → i < length list → item ≡ get_or list i item
    → so_far ≡ fold body_more reported (take i list) → body_more so_far item ≡ None → body_in reported list ≡ None
item_stops reported list i item so_far lt here so none =
    stops_in (i + 1) reported list (fold_more body_more reported list i item lt ∙ ap (λ (x : Option (Option (List ℕ))). body_more x (get_or list i item)) (sym so) ∙ ap (body_more so_far) (sym here) ∙ none)

pub body_stops : (before : Option (List ℕ)) (item : FetchItem) (string : Option WireString) → item ≡ items.Body string → None ≡ body_bytes string → body_more (Some before) item ≡ None
body_stops before item string e h = ap (body_more (Some before)) e ∙ ap (option_map (λ bytes. Some bytes)) (sym h)

-- ---- what was reported before counts if no more is reported

abbrev or_before : (before : Option (List ℕ)) → Option (Option (List ℕ)) → Option (Option (List ℕ))
or_before before None = None
or_before before (Some None) = Some before
or_before before (Some (Some bytes)) = Some (Some bytes)

later_counts : (before : Option (List ℕ)) (bytes : List ℕ) (reported : Option (Option (List ℕ))) → or_before (Some bytes) reported ≡ or_before before (or_before (Some bytes) reported)
later_counts before bytes None = refl
later_counts before bytes (Some None) = refl
later_counts before bytes (Some (Some more)) = refl

reported_before : (before : Option (List ℕ)) (reported : Option (List ℕ)) (list : List FetchItem) → ((b : Option (List ℕ)) → body_in (Some b) list ≡ or_before b (body_in (Some None) list))
    → body_in (option_map (λ bytes. Some bytes) reported) list ≡ or_before before (body_in (option_map (λ bytes. Some bytes) reported) list)
reported_before before None list h = in_none list ∙ ap (or_before before) (sym (in_none list))
reported_before before (Some bytes) list h = h (Some bytes) ∙ later_counts before bytes (body_in (Some None) list) ∙ ap (or_before before) (sym (h (Some bytes)))

in_before : (before : Option (List ℕ)) (list : List FetchItem) → body_in (Some before) list ≡ or_before before (body_in (Some None) list)
in_before before [] = refl
in_before before (items.Uid uid ∷ list) = in_before before list
in_before before (items.Flags flags ∷ list) = in_before before list
in_before before (items.Size size ∷ list) = in_before before list
in_before before (items.Head head ∷ list) = in_before before list
in_before before (items.Body body ∷ list) = reported_before before (body_bytes body) list (λ b. in_before b list)

if_before : (b : Bool) (before : Option (List ℕ)) (list : List FetchItem) → (if b then body_in (Some before) list else Some before) ≡ or_before before (if b then body_in (Some None) list else Some None)
if_before true before list = in_before before list
if_before false before list = refl

more_before : (uid : ℕ) (before : Option (List ℕ)) (r : Reply) → bodies_more uid (Some before) r ≡ or_before before (bodies_more uid (Some None) r)
more_before uid before (Fetch n list) = if_before (is_reported uid (uid_of list)) before list
more_before uid before (Continue text) = refl
more_before uid before (Tagged tag status text) = refl
more_before uid before (Notice kind text) = refl
more_before uid before (Capability names) = refl
more_before uid before (Enabled names) = refl
more_before uid before (Listed attributes delimiter name) = refl
more_before uid before (Flags flags) = refl
more_before uid before (Exists n) = refl
more_before uid before (Expunge n) = refl
more_before uid before (Other word text) = refl
more_before uid before (OtherNumbered n event text) = refl

-- ---- reply by reply

-- some of these replies are left, in the bytes from `done` on, and the others report this body
pub record FoundSo (uid : ℕ) (bytes : List ℕ) (done : ℕ) (found : Option FoundBody) (rs : List Reply) : Type 0 where
  left : List Reply
  spelled : AreReplies left (drop done bytes)
  reported : body_reported uid rs ≡ fold (bodies_more uid) (Some (found_at bytes found)) left

pub none_found : (uid : ℕ) (bytes : List ℕ) (rs : List Reply) → AreReplies rs bytes → FoundSo uid bytes 0 None rs
none_found uid bytes rs h = record { left = rs; spelled = h; reported = refl }

module _ (uid : ℕ) (bytes : List ℕ) (done : ℕ) (found : Option FoundBody) (rs : List Reply) (so : FoundSo uid bytes done found rs) where
  -- at the end of the bytes all is reported
  pub reported_all : done ≡ length bytes → body_reported uid rs ≡ Some (found_at bytes found)
  reported_all e =
      let following : drop done bytes ≡ [] = drop_all done bytes (omega (arith, e)) in
      so.reported ∙ ap (fold (bodies_more uid) (Some (found_at bytes found))) (no_left so.left (drop done bytes) so.spelled following)

  -- the bytes after them are replies
  spelled_after : AreReplies so.left (take (length bytes - done) (drop done bytes))
  spelled_after = subst (AreReplies so.left) (sym (slice_is bytes bytes done refl)) so.spelled

  pub speaks_on : Speaks (take (length bytes - done) (drop done bytes))
  speaks_on = record { replies = so.left; spelled = spelled_after }

  pub first_left : (r : Reply) (len : ℕ) → ((qs : List Reply) → AreReplies qs (take (length bytes - done) (drop done bytes)) → IsFirst r len (take (length bytes - done) (drop done bytes)) qs)
      → IsFirst r len (drop done bytes) so.left
  first_left r len h = subst (λ (b : List ℕ). IsFirst r len b so.left) (slice_is bytes bytes done refl) (h so.left spelled_after)

  module _ (r : Reply) (len : ℕ) (first : IsFirst r len (drop done bytes) so.left) where
    reported_on : (states : Option (Option (List ℕ))) → bodies_more uid (Some None) r ≡ states
        → body_reported uid rs ≡ fold (bodies_more uid) (or_before (found_at bytes found) states) first.others
    reported_on states e =
        so.reported ∙ ap (fold (bodies_more uid) (Some (found_at bytes found))) first.all
        ∙ ap (λ (x : Option (Option (List ℕ))). fold (bodies_more uid) x first.others) (more_before uid (found_at bytes found) r ∙ ap (or_before (found_at bytes found)) e)

    spelled_on : AreReplies first.others (drop (done + len) bytes)
    spelled_on = subst (AreReplies first.others) (drop-drop len done bytes) first.spelled

    -- where the reply cannot be taken, no body is reported
    pub reported_none_of : bodies_more uid (Some None) r ≡ None → body_reported uid rs ≡ None
    reported_none_of e = reported_on None e ∙ reported_none uid first.others

    -- it reports none
    pub found_before : bodies_more uid (Some None) r ≡ Some None → FoundSo uid bytes (done + len) found rs
    found_before e = record { left = first.others; spelled = spelled_on; reported = reported_on (Some None) e }

    -- it reports one
    pub found_now : (now : FoundBody) (octets : List ℕ) → bodies_more uid (Some None) r ≡ Some (Some octets) → body_at now bytes ≡ octets → FoundSo uid bytes (done + len) (Some now) rs
    found_now now octets e h = record {
      left = first.others;
      spelled = spelled_on;
      reported = reported_on (Some (Some octets)) e ∙ ap (λ (x : List ℕ). fold (bodies_more uid) (Some (Some x)) first.others) (sym h);
    }

pub within_bytes : (bytes : List ℕ) (done len : ℕ) → done ≤ length bytes → len ≤ length (take (length bytes - done) (drop done bytes)) → done + len ≤ length bytes
within_bytes bytes done len h e = let long = ap length (slice_is bytes bytes done refl) in omega (arith, h, e, long, length-drop done bytes)
