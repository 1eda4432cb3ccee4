-- What becomes of the pieces of a group while the effects of those that run are kept, one after another.
use Rattle.std.proofs.Common.{◌<◌, unwrap_or, slice_index_or, ◌≡◌, ◌≢◌, ◌∙◌, ◌+◌, ◌≤◌, ℕ, Bool, true, false, cond, List, [], ◌∷◌, ◌++◌, append_assoc, append-nil, length, length-append, map, filter, Option, Some, None, is_some, refl, sym, ap, arith}
use Rattle.std.specs.Prelude.{remove}
use Rattle.std.proofs.lemmas.Bool.{false≢true}
use Rattle.process_tree.specs.Order.{Each}
use Rattle.process_tree.specs.declared.play.Outcome.TheVariants.{Done}
use Rattle.machine_model.specs.declared.replies.PieceState.TheVariants.{Out, Dropped, Over}
use Rattle.machine_model.specs.Calls.{finish, finished}
use Rattle.machine_model.specs.Replies.{effected as taken}
use Rattle.process_core.proofs.CoreEffects.{reply_is}
use Rattle.machine_model.specs.Groups.{Ended, ended_then, flush_reply, effected, dropped_at_event}
use Rattle.machine_model.specs.Moment.{Moment, Piece}
use Rattle.machine_model.specs.Pieces.{dropped_at, dropped_or_over, piece_of, runs, state_of}
use Rattle.machine_model.specs.Replies.{Handed}
use Rattle.machine_model.proofs.CallsKept.{out_runs}
use Rattle.machine_model.proofs.OverPieces.{over_is_finished}
use Rattle.process_core.specs.Answers.{after_call, answer_in}
use Rattle.process_core.specs.Cores.{CoreState, IsCore, IsHandedBy, history_of, machine_of, moment_of, relation}
use Rattle.std.proofs.lemmas.List.{map-append}
use Rattle.process_engine.specs.Most.{most_queued}
use Rattle.process_engine.specs.Ends.{end_as, ended_as}
use Rattle.process_engine.specs.declared.group.GroupEnd.{GroupEnd}
use Rattle.process_engine.specs.Pieces.{AreDistinct, IsOut, after_all, numbers_of}
use Rattle.process_engine.specs.Queues.{IsUnfinished, pieces_of, running_of}
use Rattle.process_engine.proofs.GroupCores.{apart_from, events_more, others_dropped, others_finished, others_handed, others_runs}

-- a reply tells of each piece by what the moment knows of it alone
then_alike : (m o : Moment) (place n : ℕ) (ns : List ℕ) (t : Bool) → dropped_at m n ≡ dropped_at o n → ((k : ℕ) → flush_reply m k ns ≡ flush_reply o k ns)
    → ended_then m place n (λ k. flush_reply m k ns) t ≡ ended_then o place n (λ k. flush_reply o k ns) t
then_alike m o place n ns true lost rest = ap (λ es. record { piece = n; ending = effected (place + 1) } ∷ es) (rest (place + 1))
then_alike m o place n ns false lost rest = ap (λ d. record { piece = n; ending = dropped_at_event (unwrap_or d 0) } ∷ flush_reply m place ns) lost
    ∙ ap (λ es. record { piece = n; ending = dropped_at_event (unwrap_or (dropped_at o n) 0) } ∷ es) (rest place)

-- what two moments say alike of a piece
pub record SayAlike (m o : Moment) (n : ℕ) : Type 0 where
  pub runs : runs m n ≡ runs o n
  pub lost : dropped_at m n ≡ dropped_at o n

pub reply_alike : (m o : Moment) (ps : List Piece) (place : ℕ) → Each (λ p. SayAlike m o p.number) ps → flush_reply m place (numbers_of ps) ≡ flush_reply o place (numbers_of ps)
reply_alike m o [] place alike = refl
reply_alike m o (p ∷ ps) place alike =
    then_alike m o place p.number (numbers_of ps) (runs m p.number) alike.0.lost (λ k. reply_alike m o ps k alike.1)
    ∙ ap (ended_then o place p.number (λ k. flush_reply o k (numbers_of ps))) alike.0.runs

running_step : (m o : Moment) (p : Piece) (xs ys : List Piece) → runs m p.number ≡ runs o p.number → xs ≡ ys → cond (runs m p.number) (p ∷ xs) xs ≡ cond (runs o p.number) (p ∷ ys) ys
running_step m o p xs ys is same = ap (λ b. cond b (p ∷ xs) xs) is ∙ ap (λ zs. cond (runs o p.number) (p ∷ zs) zs) same

pub running_alike : (m o : Moment) (ps : List Piece) → Each (λ p. SayAlike m o p.number) ps → filter (λ p. runs m p.number) ps ≡ filter (λ p. runs o p.number) ps
running_alike m o [] alike = refl
running_alike m o (p ∷ ps) alike = running_step m o p (filter (λ q. runs m q.number) ps) (filter (λ q. runs o q.number) ps) alike.0.runs (running_alike m o ps alike.1)

-- what is known of a piece that was dropped
dropped_by : (b : Bool) (d : Option ℕ) (k : ℕ) → cond b Out (dropped_or_over d) ≡ Dropped k → (b ≡ false) × (d ≡ Some k)
dropped_by true d k is = cc
dropped_by false None k is = cc
dropped_by false (Some j) k is = (refl, cc)

-- While they are kept: the core, the pieces that are left, and what was told.
pub record IsKeptSoFar (first : CoreState) (all : List Handed) (core : CoreState) (rest : List Handed) (ends : List Ended) : Type 0 where
  pub unfinished : Each (IsUnfinished core) (pieces_of rest)
  pub distinct : AreDistinct (numbers_of (pieces_of rest))
  pub after : after_all core (running_of core rest) ≡ after_all first (running_of first all)
  pub told : ends ++ flush_reply (moment_of core) (length (history_of core)) (numbers_of (pieces_of rest)) ≡ flush_reply (moment_of first) (length (history_of first)) (numbers_of (pieces_of all))
  pub few : length ends + length rest ≤ most_queued
  pub some : running_of core rest ≢ [] → running_of first all ≢ []

-- what is told of a piece that takes effect, and then of the others
told_kept : (m later : Moment) (place after n : ℕ) (p : Piece) (ps : List Piece) → runs m p.number ≡ true → n ≡ place + 1 → after ≡ place + 1 → Each (λ q. SayAlike later m q.number) ps
    → record { piece = p.number; ending = effected n } ∷ flush_reply later after (numbers_of ps) ≡ flush_reply m place (numbers_of (p ∷ ps))
told_kept m later place after n p ps is at behind alike =
    ap (λ k. record { piece = p.number; ending = effected k } ∷ flush_reply later after (numbers_of ps)) at
    ∙ (ap (λ k. record { piece = p.number; ending = effected (place + 1) } ∷ flush_reply later k (numbers_of ps)) behind
    ∙ (ap (λ es. record { piece = p.number; ending = effected (place + 1) } ∷ es) (reply_alike later m ps (place + 1) alike)
    ∙ sym (ap (ended_then m place p.number (λ k. flush_reply m k (numbers_of ps))) is)))

module _ (core : CoreState) (is : IsCore core) (p : Piece) (out : IsOut core p) where
  abbrev next : CoreState
  next = after_call core (finish p.number Done)

  still_unfinished : (q : Piece) → (q.number ≡ p.number → ⊥) → IsUnfinished core q → IsUnfinished next q
  still_unfinished q other was = record {
    handed = others_handed core is p out q was.handed;
    unfinished = others_finished core is p out q.number other ∙ was.unfinished;
  }

  rest_unfinished : (qs : List Piece) → Each (λ q. q.number ≡ p.number → ⊥) qs → Each (IsUnfinished core) qs → Each (IsUnfinished next) qs
  rest_unfinished [] others each = tt
  rest_unfinished (q ∷ qs) others each = (still_unfinished q others.0 each.0, rest_unfinished qs others.1 each.1)

  rest_alike : (qs : List Piece) → Each (λ q. q.number ≡ p.number → ⊥) qs → Each (λ q. SayAlike (moment_of next) (moment_of core) q.number) qs
  rest_alike [] others = tt
  rest_alike (q ∷ qs) others = (record { runs = others_runs core is p out q.number others.0; lost = others_dropped core is p out q.number }, rest_alike qs others.1)

-- where the first runs, some piece does
pub runs_first : (b : Bool) (p : Piece) (ps : List Piece) → b ≡ true → cond b (p ∷ ps) ps ≢ []
runs_first true p ps is = λ none. cc
runs_first false p ps is = absurd (false≢true is)

-- one that runs takes effect at the next place
pub one_kept : (first : CoreState) (all : List Handed) (core : CoreState) (d : Handed) (rest : List Handed) (ends : List Ended) (n : ℕ) → IsCore core → state_of (moment_of core) d.piece.number ≡ Out
    → n ≡ length (history_of core) + 1 → IsKeptSoFar first all core (d ∷ rest) ends
    → IsKeptSoFar first all (after_call core (finish d.piece.number Done)) rest (ends ++ record { piece = d.piece.number; ending = effected n } ∷ [])
one_kept first all core d rest ends n is state place was =
    let p = d.piece in
    let out : IsOut core p = record { handed = was.unfinished.0.handed; out = state } in
    let runs_now = out_runs (runs (moment_of core) p.number) (dropped_at (moment_of core) p.number) state in
    let others = apart_from p.number (pieces_of rest) was.distinct.0 in
    let alike = rest_alike core is p out (pieces_of rest) others in
    let later = after_call core (finish p.number Done) in
    record {
      unfinished = rest_unfinished core is p out (pieces_of rest) others was.unfinished.1;
      distinct = was.distinct.1;
      after = ap (after_all later) (running_alike (moment_of later) (moment_of core) (pieces_of rest) alike)
          ∙ (ap (after_all core) (sym (ap (λ b. cond b (p ∷ running_of core rest) (running_of core rest)) runs_now)) ∙ was.after);
      told = append_assoc ends (record { piece = p.number; ending = effected n } ∷ []) (flush_reply (moment_of later) (length (history_of later)) (numbers_of (pieces_of rest)))
          ∙ (ap (λ es. ends ++ es) (told_kept (moment_of core) (moment_of later) (length (history_of core)) (length (history_of later)) n p (pieces_of rest) runs_now place (events_more core is p out) alike) ∙ was.told);
      few = let few = was.few in omega (arith, few, length-append ends (record { piece = p.number; ending = effected n } ∷ []));
      some = λ others. was.some (runs_first (runs (moment_of core) p.number) p (running_of core rest) runs_now);
    }

-- one that doesn't was dropped
pub one_dropped : (first : CoreState) (all : List Handed) (core : CoreState) (d : Handed) (rest : List Handed) (ends : List Ended) (k : ℕ) → state_of (moment_of core) d.piece.number ≡ Dropped k
    → IsKeptSoFar first all core (d ∷ rest) ends → IsKeptSoFar first all core rest (ends ++ record { piece = d.piece.number; ending = dropped_at_event k } ∷ [])
one_dropped first all core d rest ends k state was =
    let p = d.piece in
    let lost = dropped_by (runs (moment_of core) p.number) (dropped_at (moment_of core) p.number) k state in
    record {
      unfinished = was.unfinished.1;
      distinct = was.distinct.1;
      after = ap (after_all core) (sym (ap (λ b. cond b (p ∷ running_of core rest) (running_of core rest)) lost.0)) ∙ was.after;
      told = append_assoc ends (record { piece = p.number; ending = dropped_at_event k } ∷ []) (flush_reply (moment_of core) (length (history_of core)) (numbers_of (pieces_of rest)))
          ∙ (ap (λ es. ends ++ es) (sym (ap (ended_then (moment_of core) (length (history_of core)) p.number (λ j. flush_reply (moment_of core) j (numbers_of (pieces_of rest)))) lost.0
          ∙ ap (λ x. record { piece = p.number; ending = dropped_at_event (unwrap_or x 0) } ∷ flush_reply (moment_of core) (length (history_of core)) (numbers_of (pieces_of rest))) lost.1)) ∙ was.told);
      few = let few = was.few in omega (arith, few, length-append ends (record { piece = p.number; ending = dropped_at_event k } ∷ []));
      some = λ others. was.some (λ none. others (sym (ap (λ b. cond b (p ∷ running_of core rest) (running_of core rest)) lost.0) ∙ none));
    }

-- none of them is over
pub none_over : (core : CoreState) → IsCore core → (p : Piece) → IsUnfinished core p → state_of (moment_of core) p.number ≡ Over → ⊥
none_over core is p un over =
    let found : is_some (piece_of core.kept p.number) ≡ true = ap is_some un.handed in
    false≢true (sym un.unfinished ∙ (over_is_finished (relation core) (machine_of core) p.number is.session.run found).0 over)

-- in the end all is told
pub all_kept : (first : CoreState) (all : List Handed) (core : CoreState) (rest : List Handed) (ends : List Ended) → length rest ≡ 0 → IsKeptSoFar first all core rest ends
    → (core ≡ after_all first (running_of first all)) × (ends ≡ flush_reply (moment_of first) (length (history_of first)) (numbers_of (pieces_of all)))
all_kept first all core [] ends none was = (was.after, sym (append-nil ends) ∙ was.told)
all_kept first all core (d ∷ rest) ends none was = absurd (omega (arith, none))

-- a list that isn't empty is its first and the others
pub first_of : (xs : List Handed) (x : Handed) → 0 < length xs → x ≡ slice_index_or xs 0 x → xs ≡ x ∷ remove xs 0
first_of [] x some is = absurd (omega (arith, some))
first_of (y ∷ xs) x some is = ap (λ z. z ∷ xs) (sym is)

same_place : (a b : ℕ) → finished (taken a) ≡ finished (taken b) → a ≡ b
same_place a b is = cc

-- the place that a core answers is the next one
pub place_is : (core : CoreState) (p : Piece) → IsHandedBy core p → state_of (moment_of core) p.number ≡ Out → (n : ℕ) → (answer_in core (finish p.number Done)).reply ≡ finished (taken n)
    → n ≡ length (history_of core) + 1
place_is core p handed out n is = same_place n (length (history_of core) + 1) (sym is ∙ ap finished (reply_is core p handed out))

-- one end more is told
pub told_ends : (old new : List (ℕ × GroupEnd)) (number m : ℕ) (end told : GroupEnd) → new ≡ old ++ (number, end) ∷ [] → number ≡ m → end ≡ told
    → map ended_as new ≡ map ended_as old ++ record { piece = m; ending = end_as told } ∷ []
told_ends old new number m end told is same ended = ap (map ended_as) is ∙ map-append ended_as old ((number, end) ∷ [])
    ∙ ap (λ n. map ended_as old ++ record { piece = n; ending = end_as end } ∷ []) same ∙ ap (λ x. map ended_as old ++ record { piece = m; ending = end_as x } ∷ []) ended
