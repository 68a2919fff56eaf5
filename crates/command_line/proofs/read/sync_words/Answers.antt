use Rattle.std.proofs.Common.{◌∙◌, ◌≡◌, ◌++◌, ◌+◌, ◌<◌, ◌∷◌, [], ℕ, Bool, true, false, cond, ap, ap₂, sym, refl, arith, map, filter, take, get_or}
use Rattle.std.proofs.lemmas.List.{append-nil, map-append}
use Rattle.std.proofs.lemmas.List.Elements.{filter_more}
use Rattle.clap.specs.Words.{found_of, rows_of}
use Rattle.command_line.specs.Requests.{stands}
use Rattle.command_line.specs.SyncFlags.{sync_flags, flag_name, flag_word}
use Rattle.command_line.specs.declared.sync_flag.SyncFlag.{SyncFlag}
use Rattle.command_line.specs.declared.sync_flag.SyncFlag.TheVariants.{Pull}
use Rattle.command_line.proofs.read.sync_words.Goals as goal
use Rattle.command_line.proofs.read.sync_words.Goals.{then-stands+in_ok-push, else-stands}

-- one more flag: its word comes after those before it, if the flag passes
words_more : (p : SyncFlag → Bool) (i : ℕ) (passes : Bool) → i < 7 → p (get_or sync_flags i Pull) ≡ passes
    → map flag_word (filter p (take (i + 1) sync_flags)) ≡ map flag_word (filter p (take i sync_flags)) ++ cond passes (flag_word (get_or sync_flags i Pull) ∷ []) []
words_more p i true below e = ap (map flag_word) (filter_more p sync_flags i Pull below) ∙ map-append flag_word (filter p (take i sync_flags)) _ ∙ rw e refl
words_more p i false below e = ap (map flag_word) (filter_more p sync_flags i Pull below) ∙ map-append flag_word (filter p (take i sync_flags)) _ ∙ rw e refl

pub loop-flag-preserved : goal.loop-flag-preserved
loop-flag-preserved c =
    let passes : SyncFlag → Bool = λ flag. stands (rows_of (found_of c.args.matches.now)) (flag_name flag) in
    let stood = c.stands.ensures ∙ ap (stands (rows_of (found_of c.args.matches.now))) c.name.ensures in
    elim c.if-stands.branch [
      | then-stands+in_ok-push w ↦ let more = words_more passes c.loop-flag.flag-index true (omega arith) (sym stood ∙ w.if-stands.true) in
          ap (λ words. words.items) w.words-is ∙ w.in_ok-push.ensures.items ∙ ap₂ (λ words word. words ++ word ∷ []) c.loop-flag.invariant w.word.ensures ∙ sym more
      | else-stands w ↦ let more = words_more passes c.loop-flag.flag-index false (omega arith) (sym stood ∙ w.if-stands.false) in
          ap (λ words. words.items) w.words-is ∙ c.loop-flag.invariant ∙ sym (append-nil _) ∙ sym more
    ]
