use Rattle.std.proofs.Common.{◌≡◌, ◌≤◌, ◌+◌, ◌∙◌, ℕ, Ok, Err, refl, ap, subst, sym, rules, arith}
use Rattle.outside.specs.Calls.{Seen}
use Rattle.outside.specs.Devices.{Device}
use Rattle.run_states.specs.Conditions.{Underway}
use Rattle.runner.specs.declared.fault.RunFault.TheVariants as run
use Rattle.runner.specs.declared.pass.Pass.{Pass}
use Rattle.runner.specs.Answers.{made_in}
use Rattle.runner.specs.Attempts.{IsReached, AttemptStart}
use Rattle.runner.specs.Settled.{settle_reasons}
use Rattle.runner.proofs.Attempts.{caused_since, failed_few, found_device, greatest_since, kept_none, met_before, more_found, moved_twice, refused_for, stops_kept, stops_more, stuck_first, stuck_more, tried_underway}
use Rattle.runner.proofs.Ends.{changed_last, kept_last, settled_so}
use Rattle.runner.proofs.Reopening.{attempted_more, attempted_none, began_at, reopens_more}
use Rattle.runner.proofs.PartCalls.{leaves_after, leaves_map, more_after, more_none}
use Rattle.runner.proofs.PlanFacts.{moved_none}
use Rattle.runner.proofs.Asking.{asks_after, asks_none, asks_then}
use Rattle.runner.proofs.settle.settle.Goals as goal

pub loop-tried-init : goal.loop-tried-init
loop-tried-init g c = record {
  was_honest = λ h. h;
  keywords = refl;
  asked = asks_none g.O.Outside.noted _ _ _ refl;
  moved = moved_none _;
  stops = omega arith;
  reported = more_none _ _ refl;
  appends = omega arith;
  reopened = attempted_none _ _ 0 _ refl;
  first = λ z. refl;
  unfixed = λ z. refl;
  reached = λ h. tt;
  undrawn = λ z. refl;
  stuck = λ z b. refl;
  left = λ h asked at. record { asked = asked; tried = at };
  greatest = λ h s p held is. (refl, kept_none _ _);
}

pub loop-tried-preserved : goal.loop-tried-preserved
loop-tried-preserved g c =
    let i = c.loop-tried.invariant in
    let e = c.again.ensures.seen in
    let alone = g.O.Outside.alone in
    let options = c.args.options.now in
    let s0 = g.O.Outside.seen c.args.outside.now in
    let now = g.O.Outside.seen c.loop-tried.outside in
    let s1 = g.O.Outside.seen c.again.new.outside in
    let s2 = g.O.Outside.seen c.attempt.new.outside in
    let tried = c.loop-tried.tried in
    let run = c.loop-tried.run in
    let before = AttemptStart g.opening options (g.R.Rng.stream c.loop-tried.rng) run in
    let device = found_device tried now s1 e in
    let part = rw c.in-Err-Stopped.field-0-is at c.in-Err-Stopped.ensures.attempt.part in
    let n = part.no_less in
    let appends = ap (λ (s : Seen). s.appends) e in
    record {
      was_honest = λ h. i.was_honest (c.again.ensures.frame.was_honest (c.attempt.ensures.attempt.frame.was_honest h));
      keywords = c.attempt.ensures.attempt.frame.keywords ∙ c.again.ensures.frame.keywords ∙ i.keywords;
      asked = asks_then g.O.Outside.noted _ _ _ _ i.asked (asks_after g.O.Outside.noted _ _ _ _ c.again.ensures.asked c.attempt.ensures.asked);
      moved = moved_twice _ _ _ i.moved c.attempt.ensures.attempt.moved;
      stops = stops_more _ _ _ tried s0 now s1 s2 _ i.stops i.first e c.attempt.ensures.attempt.stuck part;
      reported = more_after s0 s1 s2 (more_found tried s0 now s1 i.reported e) n.reported;
      appends = let k = i.appends in let m = n.appends in omega (arith, k, appends, m);
      reopened = attempted_more g.opening _ _ tried run s0 now s1 s2 (λ f. (c.again.ensures.frame.was_honest (c.attempt.ensures.attempt.frame.was_honest f.0), f.1, f.2)) i.first e i.reopened (λ f. (i.left f.0 f.1 f.2).tried) (λ f. part.goes_on f.0) n.reopened;
      first = λ z. absurd (omega (arith, z));
      unfixed = λ z. absurd (omega (arith, z));
      reached = λ h. c.attempt.ensures.attempt.number.reached h (subst (λ (d : Device). IsReached run d.files) (sym device) (i.reached (c.again.ensures.frame.was_honest (c.attempt.ensures.attempt.frame.was_honest h))));
      undrawn = λ z. absurd (omega (arith, z));
      stuck = stuck_more tried s0 now s1 s2 _ i.first e c.attempt.ensures.attempt.stuck;
      left = λ h asked at. part.left h (subst before (sym device) (i.left (c.again.ensures.frame.was_honest (c.attempt.ensures.attempt.frame.was_honest h)) asked at));
      greatest = λ h s p held is.
          let k = i.greatest (c.again.ensures.frame.was_honest (c.attempt.ensures.attempt.frame.was_honest h)) s p held is in
          let r = greatest_since alone _ s0.device now.device s1.device s2.device _ run c.attempt.new.run k device s p held is c.attempt.ensures.attempt.number.greatest c.attempt.ensures.attempt.number.unfixed h in
          (r.0, r.1.1);
    }

pub returns-in-Ok-clause-moved : goal.returns-in-Ok-clause-moved
returns-in-Ok-clause-moved g c = let i = c.loop-tried.invariant in moved_twice _ _ _ i.moved c.attempt.ensures.attempt.moved

pub returns-in-Ok-clause-done : goal.returns-in-Ok-clause-done
returns-in-Ok-clause-done g c = λ h asked at.
    let i = c.loop-tried.invariant in
    let tried = c.loop-tried.tried in
    let s0 = g.O.Outside.seen c.args.outside.now in
    let now = g.O.Outside.seen c.loop-tried.outside in
    let s1 = g.O.Outside.seen c.again.new.outside in
    let s2 = g.O.Outside.seen c.attempt.new.outside in
    let stream = g.R.Rng.stream c.args.rng.now in
    let drawn = g.R.Rng.stream c.loop-tried.rng in
    let attempt = c.in-Ok.ensures.attempt in
    let said = attempt.answer in
    let part = attempt.part in
    let before = c.again.ensures.frame.was_honest (c.attempt.ensures.attempt.frame.was_honest h) in
    let t = i.left before asked at in
    let here = subst (AttemptStart g.opening c.args.options.now drawn c.loop-tried.run) (sym (found_device tried now s1 c.again.ensures.seen)) t in
    let began = began_at g.opening _ tried c.loop-tried.run s0 now s1 s2 stream drawn i.first i.undrawn i.moved c.again.ensures.seen i.reopened (before, asked, at) t.tried (part.goes_on h) part.reopened in
    settled_so g.opening s0 s1 s2 stream drawn (g.O.Outside.opened c.attempt.new.outside) c.args.options.now (record { stops = tried; last = c.in-Ok.last }) at began (part.reaches h here) (said.by_files h here.tried) (said.reported h here) (said.found h here) (said.named h here)

pub returns-in-Ok-clause-greatest : goal.returns-in-Ok-clause-greatest
returns-in-Ok-clause-greatest g c = λ h s p held is.
    let i = c.loop-tried.invariant in
    let s0 = g.O.Outside.seen c.args.outside.now in
    let now = g.O.Outside.seen c.loop-tried.outside in
    let s1 = g.O.Outside.seen c.again.new.outside in
    let s2 = g.O.Outside.seen c.attempt.new.outside in
    let k = i.greatest (c.again.ensures.frame.was_honest (c.attempt.ensures.attempt.frame.was_honest h)) s p held is in
    let r = greatest_since g.O.Outside.alone _ s0.device now.device s1.device s2.device (Ok c.in-Ok.last) c.loop-tried.run c.attempt.new.run k (found_device c.loop-tried.tried now s1 c.again.ensures.seen) s p held is c.in-Ok.ensures.attempt.number.greatest c.in-Ok.ensures.attempt.number.unfixed h in
    absurd r.1.0

pub returns-in-Ok-clause-counts : goal.returns-in-Ok-clause-counts
returns-in-Ok-clause-counts g c =
    let i = c.loop-tried.invariant in
    let tried = c.loop-tried.tried in
    let s0 = g.O.Outside.seen c.args.outside.now in
    let now = g.O.Outside.seen c.loop-tried.outside in
    let s1 = g.O.Outside.seen c.again.new.outside in
    let s2 = g.O.Outside.seen c.attempt.new.outside in
    let p = c.in-Ok.ensures.attempt.part in
    let appended : s1.appends ≡ now.appends = ap (λ (s : Seen). s.appends) c.again.ensures.seen in (
      stops_kept tried s0 now s1 s2 i.stops c.again.ensures.seen p.stops,
      failed_few tried s0 now s1 s2 c.in-Ok.last i.first c.again.ensures.seen c.in-Ok.ensures.attempt.stuck,
      reopens_more g.opening _ tried s0 now s1 s2 i.first c.again.ensures.seen i.reopened p.reopened,
      record {
        least = let k = i.appends in let m = p.appends in omega (arith, k, m, appended);
        alone = λ z. p.appends ∙ ap (λ (n : ℕ). n + made_in c.in-Ok.last) (appended ∙ ap (λ (s : Seen). s.appends) (i.first z));
      },
    )

pub returns-in-Ok-clause-stuck : goal.returns-in-Ok-clause-stuck
returns-in-Ok-clause-stuck g c = λ few b.
    let i = c.loop-tried.invariant in
    let s0 = g.O.Outside.seen c.args.outside.now in
    let now = g.O.Outside.seen c.loop-tried.outside in
    let s1 = g.O.Outside.seen c.again.new.outside in
    let s2 = g.O.Outside.seen c.attempt.new.outside in
    absurd ((stuck_first c.loop-tried.tried s0 now s1 s2 (Ok c.in-Ok.last) (omega (arith, few)) i.first c.again.ensures.seen c.in-Ok.ensures.attempt.stuck b).0)

pub returns-in-Err-clause-moved : goal.returns-in-Err-clause-moved
returns-in-Err-clause-moved g c = let i = c.loop-tried.invariant in moved_twice _ _ _ i.moved c.attempt.ensures.attempt.moved

pub returns-in-Err-clause-left : goal.returns-in-Err-clause-left
returns-in-Err-clause-left g c = λ h asked at.
    let i = c.loop-tried.invariant in
    let e = c.again.ensures.seen in
    let options = c.args.options.now in
    let tried = c.loop-tried.tried in
    let s0 = g.O.Outside.seen c.args.outside.now in
    let now = g.O.Outside.seen c.loop-tried.outside in
    let s1 = g.O.Outside.seen c.again.new.outside in
    let s2 = g.O.Outside.seen c.attempt.new.outside in
    let stream = g.R.Rng.stream c.args.rng.now in
    let drawn = g.R.Rng.stream c.loop-tried.rng in
    let fault = c.in-Err.fault in
    let part = c.in-Err.ensures.attempt.part in
    let before = c.again.ensures.frame.was_honest (c.attempt.ensures.attempt.frame.was_honest h) in
    let t = i.left before asked at in
    let here = subst (AttemptStart g.opening options drawn c.loop-tried.run) (sym (found_device tried now s1 e)) t in
    let after = AttemptStart g.opening options (g.R.Rng.stream c.attempt.new.rng) c.attempt.new.run in
    let kept = part.no_less.reopened in
    let began = began_at g.opening _ tried c.loop-tried.run s0 now s1 s2 stream drawn i.first i.undrawn i.moved e i.reopened (before, asked, at) t.tried (part.goes_on h) kept in
    record {
      left = leaves_after (Underway g.opening) fault s0 s1 s2 (more_found tried s0 now s1 i.reported e)
          (leaves_map after (Underway g.opening) fault s1 s2 (λ k. tried_underway g.opening c.attempt.new.run s2.device k.tried) (part.left h here));
      changed = λ side is. changed_last g.opening s0 s1 s2 stream drawn _ _ _ tried c.args.tries side fault began (omega arith) is h part (λ reported. reported.0);
      keywords = λ is. kept_last g.opening s0 s1 s2 stream drawn _ _ _ tried c.args.tries _ options.keywords fault began (omega arith) is h part (λ reported. reported);
      refused = λ step is. (refused_for _ _ _ fault s1 s2 step is part).1 h here;
    }

pub returns-in-Err-clause-caused : goal.returns-in-Err-clause-caused
returns-in-Err-clause-caused g c = λ other.
    let i = c.loop-tried.invariant in
    let e = c.again.ensures.seen in
    let s0 = g.O.Outside.seen c.args.outside.now in
    let now = g.O.Outside.seen c.loop-tried.outside in
    let s1 = g.O.Outside.seen c.again.new.outside in
    let s2 = g.O.Outside.seen c.attempt.new.outside in
    let appends : s0.appends ≤ s1.appends = (let k = i.appends in let r = ap (λ (s : Seen). s.appends) e in omega (arith, k, r)) in
    let start = g.R.Rng.stream c.args.rng.now in
    let before = AttemptStart g.opening c.args.options.now (g.R.Rng.stream c.loop-tried.rng) c.loop-tried.run in
    let device = found_device c.loop-tried.tried now s1 e in
    caused_since (settle_reasons (g.O.Outside.opened c.attempt.new.outside) (g.O.Outside.honest c.attempt.new.outside) g.opening c.args.options.now start (g.R.Rng.stream c.attempt.new.rng) s0.device s2.device) _ _ _ c.in-Err.fault s0 s1 s2
    (more_found c.loop-tried.tried s0 now s1 i.reported e) appends other c.in-Err.ensures.attempt.part (record {
      changed = λ side t. t.1;
      keywords = λ t. (t.0, λ h. (t.1 h).0);
      repeats = λ k. record { drawn = g.R.Rng.stream c.loop-tried.rng; moved = i.moved; on = c.attempt.ensures.attempt.moved; count = k.count; repeats = k.repeats; wanted = λ h asked at. k.wanted h (subst before (sym device) (i.left (c.again.ensures.frame.was_honest (c.attempt.ensures.attempt.frame.was_honest h)) asked at)) };
      beyond = λ b. (b.0, λ h. b.1 h (subst (λ (d : Device). IsReached c.loop-tried.run d.files) (sym device) (i.reached (c.again.ensures.frame.was_honest (c.attempt.ensures.attempt.frame.was_honest h)))));
      greatest = λ n. n;
      unread = λ e t. t;
      refused = λ step t. t.0;
    })

pub returns-in-Err-clause-counts : goal.returns-in-Err-clause-counts
returns-in-Err-clause-counts g c =
    let i = c.loop-tried.invariant in
    let tried = c.loop-tried.tried in
    let s0 = g.O.Outside.seen c.args.outside.now in
    let now = g.O.Outside.seen c.loop-tried.outside in
    let s1 = g.O.Outside.seen c.again.new.outside in
    let s2 = g.O.Outside.seen c.attempt.new.outside in
    let part = c.in-Err.ensures.attempt.part in
    let kept = part.no_less.reopened in
    let reopens = reopens_more g.opening _ tried s0 now s1 s2 i.first c.again.ensures.seen i.reopened kept in
    let other : c.in-Err.fault ≡ run.Stopped → ⊥ = search rules in
    record {
      stopped = λ is. absurd (other is);
      ended = λ other. met_before Pass _ _ _ tried c.args.tries s0 now s1 s2 c.in-Err.fault i.stops i.first c.again.ensures.seen c.in-Err.ensures.attempt.stuck part (omega arith) other reopens;
    }

pub returns-in-Err-clause-greatest : goal.returns-in-Err-clause-greatest
returns-in-Err-clause-greatest g c = λ h s p held is.
    let i = c.loop-tried.invariant in
    let s0 = g.O.Outside.seen c.args.outside.now in
    let now = g.O.Outside.seen c.loop-tried.outside in
    let s1 = g.O.Outside.seen c.again.new.outside in
    let s2 = g.O.Outside.seen c.attempt.new.outside in
    let k = i.greatest (c.again.ensures.frame.was_honest (c.attempt.ensures.attempt.frame.was_honest h)) s p held is in
    let r = greatest_since {T = Pass} g.O.Outside.alone _ s0.device now.device s1.device s2.device (Err c.in-Err.fault) c.loop-tried.run c.attempt.new.run k (found_device c.loop-tried.tried now s1 c.again.ensures.seen) s p held is c.in-Err.ensures.attempt.number.greatest c.in-Err.ensures.attempt.number.unfixed h in
    r.1

pub returns-in-Err-clause-stuck : goal.returns-in-Err-clause-stuck
returns-in-Err-clause-stuck g c = λ few.
    let i = c.loop-tried.invariant in
    let s0 = g.O.Outside.seen c.args.outside.now in
    let now = g.O.Outside.seen c.loop-tried.outside in
    let s1 = g.O.Outside.seen c.again.new.outside in
    let s2 = g.O.Outside.seen c.attempt.new.outside in
    stuck_first {T = Pass} c.loop-tried.tried s0 now s1 s2 (Err c.in-Err.fault) (omega (arith, few)) i.first c.again.ensures.seen c.in-Err.ensures.attempt.stuck

pub returns-in-Ok-clause-asked : goal.returns-in-Ok-clause-asked
returns-in-Ok-clause-asked g c = let i = c.loop-tried.invariant in asks_then g.O.Outside.noted _ _ _ _ i.asked (asks_after g.O.Outside.noted _ _ _ _ c.again.ensures.asked c.attempt.ensures.asked)

pub returns-in-Err-clause-asked : goal.returns-in-Err-clause-asked
returns-in-Err-clause-asked g c = let i = c.loop-tried.invariant in asks_then g.O.Outside.noted _ _ _ _ i.asked (asks_after g.O.Outside.noted _ _ _ _ c.again.ensures.asked c.attempt.ensures.asked)
