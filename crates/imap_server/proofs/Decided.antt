-- What the answer of the reader says of a text up to a place.
use Rattle.std.proofs.Common.{◌≡◌, ℕ, zero, suc, ◌<◌, ◌≤◌, ◌⊎◌, List, [], ◌∷◌, ◌++◌, length, take, drop, refl, sym, ap, subst, ◌∙◌, append_assoc, take-append-drop, inl, inr, arith}
use Rattle.std.proofs.lemmas.Bool.{cases_lt}
use Rattle.std.proofs.lemmas.List.{length-append, length-take, take_all, take-append-le}
use Rattle.std.proofs.Math.Seq.{drop-append_seam}
use Rattle.wire_reader.specs.declared.side.Speaker.TheVariants.{Commands}
use Rattle.wire_reader.specs.Spelling.{crlf}
use Rattle.wire_reader.specs.Lexical.{outside}
use Rattle.wire_reader.specs.Scanning.{NoPlace}
use Rattle.wire_reader.specs.Answers.{Begins, FaultAt, WholeAt, PassesLimit}
use Rattle.wire_reader.specs.Places.{Opens, Drops}
use Rattle.wire_reader.proofs.Top.{none_begins}
use Rattle.wire_reader.proofs.PlaceLaws.{waits_law}
use Rattle.imap_commands.specs.declared.command.Command.{Command}
use Rattle.imap_commands.specs.Commands.{Spelled}
use Rattle.imap_commands.proofs.CommandParts.{command_part}
use Rattle.imap_commands.proofs.CommandFeeds.{command_feed}
use Rattle.imap_server.proofs.UpToPlaces.{take-twice, outside-take}

-- ---- one answer excludes another

front_of : (i j : ℕ) (text : List ℕ) → i ≤ j → take j text ≡ take i text ++ drop i (take j text)
front_of i j text h = sym (take-append-drop i (take j text)) ∙ ap (λ (l : List ℕ). l ++ drop i (take j text)) (take-twice i j text h)

-- what begins a command has none at its front
pub whole_not_begun : (text : List ℕ) (c : Command) (used : ℕ) → used ≤ length text → Spelled c (take used text) → Begins Spelled text → ⊥
whole_not_begun text c used within spelled b =
    let parts : take used text ++ (drop used text ++ b.more) ≡ text ++ b.more = sym (append_assoc (take used text) (drop used text) b.more) ∙ ap (λ (l : List ℕ). l ++ b.more) (take-append-drop used text) in
    let rest = none_begins command_part.reader c b.value (take used text) (text ++ b.more) (drop used text ++ b.more) spelled b.spelled parts in
    let some = b.some in
    absurd (omega (arith, some, ap length rest.0, length-append (drop used text) b.more))

-- nor does it have a fault
pub fault_not_begun : (text : List ℕ) (at j : ℕ) → FaultAt Spelled text at → at < j → Begins Spelled (take j text) → ⊥
fault_not_begun text at j f less b =
    f.none b.value (drop (suc at) (take j text) ++ b.more)
    (subst (Spelled b.value) (ap (λ (l : List ℕ). l ++ b.more) (front_of (suc at) j text (omega (arith, less))) ∙ append_assoc (take (suc at) text) (drop (suc at) (take j text)) b.more) b.spelled)

pub whole_no_fault : (text : List ℕ) (c : Command) (used at : ℕ) → WholeAt Spelled text c used → FaultAt Spelled text at → ⊥
whole_no_fault text c used at w f =
    elim (cases_lt at used) [
      | inr le ↦
          whole_not_begun (take at text) c used (let n = length-take at text in let l = w.within in omega (arith, n, le, l))
          (subst (Spelled c) (sym (take-twice used at text le)) w.spelled) f.before
      | inl lt ↦
          f.none c (drop (suc at) (take used text)) (subst (Spelled c) (front_of (suc at) used text (omega (arith, lt))) w.spelled)
    ]

pub one_fault : (text : List ℕ) (i j : ℕ) → FaultAt Spelled text i → FaultAt Spelled text j → i ≡ j
one_fault text i j f g =
    elim (cases_lt i j) [
      | inl lt ↦ absurd (fault_not_begun text i j f lt g.before)
      | inr le ↦ elim (cases_lt j i) [ inl lt ↦ absurd (fault_not_begun text j i g lt f.before) | inr ge ↦ omega arith ]
    ]

-- ---- a fault in a front, and in the whole

pub fault_front : (a b : List ℕ) (at : ℕ) → FaultAt Spelled (a ++ b) at → at < length a → FaultAt Spelled a at
fault_front a b at f h = record {
  within = h;
  before = subst (Begins Spelled) (take-append-le at a b (omega (arith, h))) f.before;
  none = subst (λ (l : List ℕ). (v : Command) (more : List ℕ) → Spelled v (l ++ more) → ⊥) (take-append-le (suc at) a b (omega (arith, h))) f.none;
}

pub fault_more : (a b : List ℕ) (at : ℕ) → FaultAt Spelled a at → FaultAt Spelled (a ++ b) at
fault_more a b at f =
    let h = f.within in
    record {
      within = omega (arith, h, length-append a b);
      before = subst (Begins Spelled) (sym (take-append-le at a b (omega (arith, h)))) f.before;
      none = subst (λ (l : List ℕ). (v : Command) (more : List ℕ) → Spelled v (l ++ more) → ⊥) (sym (take-append-le (suc at) a b (omega (arith, h)))) f.none;
    }

-- ---- up to a place

module _ (xs zs : List ℕ) (opens : Opens Spelled xs) (none : NoPlace xs zs) where
  abbrev text : List ℕ
  text = xs ++ zs

  pub state : Opens Spelled text ⊎ Drops Spelled xs text
  state = (waits_law command_part command_feed).between xs zs opens none

  module _ (b : ℕ) where
    abbrev more : List ℕ
    more = text ++ b ∷ []

    shorter : length more ≡ suc (length text)
    shorter = omega (arith, length-append text (b ∷ []))

    -- a command ends with the place
    none_whole : (c : Command) (used : ℕ) → WholeAt Spelled text c used → ⊥
    none_whole c used w = elim state [ inl o ↦ whole_not_begun text c used w.within w.spelled o.begins | inr d ↦ whole_no_fault text c used d.at w d.fault ]

    pub whole_all : (c : Command) (used : ℕ) → WholeAt Spelled more c used → used ≡ length more
    whole_all c used w =
        elim (cases_lt (length text) used) [
          | inr le ↦ absurd (none_whole c used (record { within = le; spelled = subst (Spelled c) (take-append-le used text (b ∷ []) le) w.spelled }))
          | inl lt ↦ let l = w.within in omega (arith, l, lt, shorter)
        ]

    pub whole_is_all : (c : Command) (used : ℕ) → WholeAt Spelled more c used → Spelled c more
    whole_is_all c used w = subst (Spelled c) (ap (λ (n : ℕ). take n more) (whole_all c used w) ∙ take_all (length more) more (omega arith)) w.spelled

    -- a fault follows what was waited for, and no line end follows it but at the place
    pub record FaultPlace (at : ℕ) : Type 0 where
      pub following : length xs ≤ at
      pub within : at ≤ length text
      pub front : List ℕ
      pub front_is : drop at more ≡ front ++ b ∷ []
      pub no_end : (c d : List ℕ) → front ≡ c ++ (crlf ++ d) → ⊥

    pub fault_place : (at : ℕ) → FaultAt Spelled more at → FaultPlace at
    fault_place at f =
        elim (cases_lt at (length text)) [
          | inl lt ↦ inside lt state
          | inr ge ↦
              let l = f.within in
              let same : at ≡ length text = omega (arith, l, ge, shorter) in
              record {
                following = omega (arith, ge, length-append xs zs);
                within = omega (arith, same);
                front = [];
                front_is = ap (λ (n : ℕ). drop n more) same ∙ drop-append_seam text (b ∷ []);
                no_end = λ c d e. nowhere c d e;
              }
        ]
      where
        nowhere : (c d : List ℕ) → [] ≡ c ++ (crlf ++ d) → ⊥
        nowhere [] d e = cc
        nowhere (x ∷ c) d e = cc

        cut : (n : ℕ) (a : List ℕ) → n ≤ length a → drop n (a ++ b ∷ []) ≡ drop n a ++ b ∷ []
        cut zero a h = refl
        cut (suc n) [] h = absurd (omega (arith, h))
        cut (suc n) (c ∷ a) h = cut n a (omega (arith, h))

        inside : at < length text → Opens Spelled text ⊎ Drops Spelled xs text → FaultPlace at
        inside lt (inl o) = absurd (fault_not_begun text at (length text) (fault_front text (b ∷ []) at f lt) lt (subst (Begins Spelled) (sym (take_all (length text) text (omega arith))) o.begins))
        inside lt (inr d) =
            let same : d.at ≡ at = one_fault text d.at at d.fault (fault_front text (b ∷ []) at f lt) in
            let following = d.following in
            record {
              following = omega (arith, following, same);
              within = omega (arith, lt);
              front = drop at text;
              front_is = cut at text (omega (arith, lt));
              no_end = λ c e is. d.no_end c e (ap (λ (n : ℕ). drop n text) same ∙ is);
            }

    -- the byte that is one too many is the place
    pub limit_last : (p : PassesLimit Commands Spelled more) → suc p.at ≡ length more
    limit_last p =
        elim (cases_lt p.at (length text)) [
          | inl lt ↦ absurd (too_many lt state)
          | inr ge ↦ let l = p.within in omega (arith, l, ge, shorter)
        ]
      where
        too_many : p.at < length text → Opens Spelled text ⊎ Drops Spelled xs text → ⊥
        too_many lt (inl o) =
            let front : outside (take (suc p.at) text) ≤ outside (take (length text) text) = outside-take (suc p.at) (length text) text (omega (arith, lt)) in
            let all : outside (take (length text) text) ≡ outside text = ap outside (take_all (length text) text (omega arith)) in
            let same : outside (take (suc p.at) more) ≡ outside (take (suc p.at) text) = ap outside (take-append-le (suc p.at) text (b ∷ []) (omega (arith, lt))) in
            let fits = o.fits in
            let passes = p.passes in
            omega (arith, front, all, same, fits, passes)
        too_many lt (inr d) =
            elim (cases_lt d.at p.at) [
              | inl less ↦
                  fault_not_begun text d.at p.at d.fault less (subst (Begins Spelled) (take-append-le p.at text (b ∷ []) (omega (arith, lt))) p.before)
              | inr le ↦
                  let front : outside (take (suc p.at) text) ≤ outside (take (suc d.at) text) = outside-take (suc p.at) (suc d.at) text (omega (arith, le)) in
                  let same : outside (take (suc p.at) more) ≡ outside (take (suc p.at) text) = ap outside (take-append-le (suc p.at) text (b ∷ []) (omega (arith, lt))) in
                  let fits = d.fits in
                  let passes = p.passes in
                  omega (arith, front, same, fits, passes)
            ]
