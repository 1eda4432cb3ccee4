-- The piece of a line `finish`, at its place among those at hand.
use Rattle.std.proofs.Common.{◌≡◌, ◌∙◌, ◌<◌, ℕ, zero, suc, Bool, true, false, List, [], ◌∷◌, ◌++◌, append-nil, length, map, slice_index_or, if◌then◌else◌, Some, None, refl, ap, sym, subst, arith}
use Rattle.std.specs.List.{remove}
use Rattle.std.proofs.lemmas.List.{map-append}
use Rattle.process_tree.specs.declared.play.Outcome.{Outcome}
use Rattle.process_tree.specs.declared.play.Outcome.TheVariants.{Done, Refused}
use Rattle.process_text.specs.Canonical.{line_of}
use Rattle.schedule_model.specs.Histories.{is_in}
use Rattle.commute_table.specs.declared.catalog.Catalog.{Catalog}
use Rattle.machine_model.specs.declared.kept.Work.TheVariants.{End}
use Rattle.machine_model.specs.Groups as groups
use Rattle.machine_model.specs.Groups.{Queue as QueueReply, queue_adds}
use Rattle.machine_model.specs.Moment.{Piece}
use Rattle.machine_model.specs.Pieces.{piece_of}
use Rattle.machine_model.specs.Progress.{same_work}
use Rattle.machine_model.specs.Replies.{Handed}
use Rattle.process_core.specs.Cores.{CoreState, IsHandedBy}
use Rattle.process_engine.specs.Finishing.{outcome_of}
use Rattle.process_engine.specs.declared.gates.Answer.TheVariants as answers
use Rattle.engine_calls.specs.GateAnswers.{is_barred_in}
use Rattle.session_text.specs.Answers.{group_open_words, no_piece_words, no_refusal_words}
use Rattle.session_play.specs.declared.cut.Cut.{Cut}
use Rattle.session_play.specs.declared.cut.Cut.TheVariants.{DiskFault, NoMemory}
use Rattle.session_play.specs.Answering.{finish_alone, queue_alone, IsAnswered, IsCut}
use Rattle.session_play.specs.Pieces.{AreHandedBy, number_of, place_in, session_of}
use Rattle.session_play.specs.Playing.{Played, SessionState, answer_of, core_after, finish_as, finish_piece, is_refused_end, play_finish, play_queue}
use Rattle.session_play.specs.Playing.{queue_piece, queue_with, reply_to_queue, stays, unfinished_after, without}
use Rattle.session_play.proofs.FoundPieces.{IsPlaceOf, each_at, each_left, is_place}

-- what is read at a place does not depend on what is read past the end
pub index_same : (hs : List Handed) (k : ℕ) (d e : Handed) → k < length hs → slice_index_or hs k d ≡ slice_index_or hs k e
index_same [] k d e within = absurd (omega (arith, within))
index_same (h ∷ hs) zero d e within = refl
index_same (h ∷ hs) (suc k) d e within = index_same hs k d e (omega (arith, within))

-- a piece, for what is read past the end
abbrev pub some_piece : Handed
some_piece = record { piece = record { number = 0; process = 0; step = 0; work = End }; tried = 0; refuse = 0 }

-- An end that is not told to be refused is told to be done.
pub end_done : (p : Piece) (outcome : Outcome) → is_refused_end p outcome ≡ false → p.work ≡ End → answer_of outcome ≡ answers.Done
end_done p Done other end = refl
end_done p Refused other end = absurd (let so : same_work p.work End ≡ true = ap (λ w. same_work w End) end in cc)

-- No piece of this number is at hand,
pub none_found : (cat : Catalog) (core : CoreState) (hs qs : List Handed) (n : ℕ) (outcome : Outcome) (text : List ℕ) → place_in n (map number_of hs) ≡ None → text ≡ line_of (no_piece_words n)
    → IsAnswered (play_finish cat (session_of core hs qs) n outcome) core hs qs text
none_found cat core hs qs n outcome text place told =
    let absent : is_in n (map number_of hs) ≡ false = subst (IsPlaceOf n hs) place (is_place n hs) in
    subst (λ x. IsAnswered x core hs qs text) (sym (ap (λ b. finish_piece cat (session_of core hs qs) n outcome (if b then piece_of core.kept n else None)) absent)) (record { state = refl; printed = told })

-- and none is queued.
pub none_queued : (cat : Catalog) (core : CoreState) (hs qs : List Handed) (n : ℕ) (outcome : Outcome) (text : List ℕ) → place_in n (map number_of hs) ≡ None → text ≡ line_of (no_piece_words n)
    → IsAnswered (play_queue cat (session_of core hs qs) n outcome) core hs qs text
none_queued cat core hs qs n outcome text place told =
    let absent : is_in n (map number_of hs) ≡ false = subst (IsPlaceOf n hs) place (is_place n hs) in
    subst (λ x. IsAnswered x core hs qs text) (sym (ap (λ b. queue_piece cat (session_of core hs qs) n outcome (if b then piece_of core.kept n else None)) absent)) (record { state = refl; printed = told })

-- nothing is queued where none is counted
pub closed_group : (qs : List Handed) → length qs ≡ 0 → qs ≡ []
closed_group [] none = refl
closed_group (q ∷ qs) none = absurd cc

-- the unfinished pieces after a reply to the queueing of piece n: the others, and the piece where the group is full for it
unfinished_is : (ns : List ℕ) (n : ℕ) (r : QueueReply) → unfinished_after ns n r ≡ without n ns ++ unfinished_after [] n r
unfinished_is ns n groups.queued = sym (append-nil (without n ns))
unfinished_is ns n groups.full = refl
unfinished_is ns n (groups.refused r) = sym (append-nil (without n ns))
unfinished_is ns n groups.over = sym (append-nil (without n ns))
unfinished_is ns n (groups.dropped k) = sym (append-nil (without n ns))
unfinished_is ns n groups.no_piece = sym (append-nil (without n ns))
unfinished_is ns n groups.no_refusal = sym (append-nil (without n ns))

module _ (cat : Catalog) (core : CoreState) (hs : List Handed) (n k : ℕ) (outcome : Outcome) (place : place_in n (map number_of hs) ≡ Some k) where
  is : IsPlaceOf n hs (Some k)
  is = subst (IsPlaceOf n hs) place (is_place n hs)

  pub within : k < length hs
  within = is.1

  module _ (handed : AreHandedBy core hs) (p : Handed) (at : p ≡ slice_index_or hs k p) where
    number : number_of p ≡ n
    number = ap number_of at ∙ is.2 p

    -- It was handed out,
    pub own : IsHandedBy core p.piece
    own = subst (λ (h : Handed). IsHandedBy core h.piece) (sym at) (each_at (λ (h : Handed). IsHandedBy core h.piece) hs k p within handed)

    -- as were the others.
    pub left : AreHandedBy core (remove hs k)
    left = each_left (λ (h : Handed). IsHandedBy core h.piece) hs k handed

    found : piece_of core.kept n ≡ Some p.piece
    found = subst (λ m. piece_of core.kept m ≡ Some p.piece) number own

    -- what the line comes to while nothing is queued, where it is an end that is told to be refused, and where it isn't
    abbrev by : Bool → Played
    by refused = if refused then stays (session_of core hs []) (no_refusal_words p.piece.number) else finish_as (session_of core hs []) p.piece (outcome_of (answer_of outcome) (is_barred_in cat core p.piece))

    played : (refused : Bool) → is_refused_end p.piece outcome ≡ refused → play_finish cat (session_of core hs []) n outcome ≡ by refused
    played refused is_so = ap (finish_piece cat (session_of core hs []) n outcome) (ap (λ b. if b then piece_of core.kept n else None) is.0 ∙ found) ∙ ap by is_so

    pub refused : is_refused_end p.piece outcome ≡ true → (text : List ℕ) → text ≡ line_of (no_refusal_words n) → IsAnswered (play_finish cat (session_of core hs []) n outcome) core hs [] text
    refused so text told = subst (λ x. IsAnswered x core hs [] text) (sym (played true so)) (record { state = refl; printed = told ∙ ap (λ m. line_of (no_refusal_words m)) (sym number) })

    -- and while something is
    pub open_group : (q : Handed) (qs : List Handed) (text : List ℕ) → text ≡ line_of group_open_words → IsAnswered (play_finish cat (session_of core hs (q ∷ qs)) n outcome) core hs (q ∷ qs) text
    open_group q qs text told =
        subst (λ x. IsAnswered x core hs (q ∷ qs) text) (sym (ap (finish_piece cat (session_of core hs (q ∷ qs)) n outcome) (ap (λ b. if b then piece_of core.kept n else None) is.0 ∙ found)))
        (record { state = refl; printed = told })

    pub open_answered : (qs : List Handed) → (length qs ≡ 0 → ⊥) → (text : List ℕ) → text ≡ line_of group_open_words → IsAnswered (play_finish cat (session_of core hs qs) n outcome) core hs qs text
    open_answered [] some text told = absurd (some refl)
    open_answered (q ∷ qs) some text told = open_group q qs text told

    module _ (other : is_refused_end p.piece outcome ≡ false) (new : CoreState) where
      pub finished : (text : List ℕ) → new ≡ (finish_alone cat core p.piece (answer_of outcome)).state.core → text ≡ (finish_alone cat core p.piece (answer_of outcome)).printed
          → IsAnswered (play_finish cat (session_of core hs []) n outcome) new (remove hs k) [] text
      finished text same told = subst (λ x. IsAnswered x new (remove hs k) [] text) (sym (played false other)) (record {
        state = ap (λ c. session_of c (remove hs k) []) same
            ∙ ap (λ ns. record { core = (finish_alone cat core p.piece (answer_of outcome)).state.core; unfinished = ns; group = [] }) (is.3 ∙ ap (λ m. without m (map number_of hs)) (sym number));
        printed = told;
      })

      by_cut : (cut : Cut) → IsCut cut (finish_alone cat core p.piece (answer_of outcome)) core new → IsCut cut (by false) core new
      by_cut DiskFault cut = cut
      by_cut NoMemory cut = cut

      pub cut_off : (cut : Cut) → IsCut cut (finish_alone cat core p.piece (answer_of outcome)) core new → IsCut cut (play_finish cat (session_of core hs []) n outcome) core new
      cut_off cut is_cut = subst (λ x. IsCut cut x core new) (sym (played false other)) (by_cut cut is_cut)

    -- The same of the line `queue`, whatever is queued.
    module _ (qs : List Handed) where
      abbrev reply : QueueReply
      reply = reply_to_queue cat (session_of core hs qs) p.piece (answer_of outcome)

      abbrev queued_by : Bool → Played
      queued_by refused = if refused then stays (session_of core hs qs) (no_refusal_words p.piece.number) else queue_with (session_of core hs qs) p.piece reply

      queue_played : (refused : Bool) → is_refused_end p.piece outcome ≡ refused → play_queue cat (session_of core hs qs) n outcome ≡ queued_by refused
      queue_played refused is_so = ap (queue_piece cat (session_of core hs qs) n outcome) (ap (λ b. if b then piece_of core.kept n else None) is.0 ∙ found) ∙ ap queued_by is_so

      pub queue_refused : is_refused_end p.piece outcome ≡ true → (text : List ℕ) → text ≡ line_of (no_refusal_words n) → IsAnswered (play_queue cat (session_of core hs qs) n outcome) core hs qs text
      queue_refused so text told =
          subst (λ x. IsAnswered x core hs qs text) (sym (queue_played true so)) (record { state = refl; printed = told ∙ ap (λ m. line_of (no_refusal_words m)) (sym number) })

      module _ (other : is_refused_end p.piece outcome ≡ false) (new : CoreState) where
        pub queue_answered : (full rest : List Handed) (text : List ℕ) → IsAnswered (queue_alone cat core qs p.piece (answer_of outcome)) new full rest text
            → IsAnswered (play_queue cat (session_of core hs qs) n outcome) new (remove hs k ++ full) rest text
        queue_answered full rest text told = subst (λ x. IsAnswered x new (remove hs k ++ full) rest text) (sym (queue_played false other)) (record {
          state = ap (λ (s : SessionState). record { core = s.core; unfinished = map number_of (remove hs k ++ full); group = s.group }) told.state
              ∙ ap (λ ns. record { core = core_after core p.piece.number reply; unfinished = ns; group = map number_of qs ++ queue_adds p.piece.number reply })
              (map-append number_of (remove hs k) full
              ∙ (ap (λ ns. ns ++ map number_of full) (is.3 ∙ ap (λ m. without m (map number_of hs)) (sym number))
              ∙ (ap (λ (s : SessionState). without p.piece.number (map number_of hs) ++ s.unfinished) told.state ∙ sym (unfinished_is (map number_of hs) p.piece.number reply))));
          printed = told.printed;
        })

        queue_by_cut : (cut : Cut) → IsCut cut (queue_alone cat core qs p.piece (answer_of outcome)) core new → IsCut cut (queued_by false) core new
        queue_by_cut DiskFault cut = cut
        queue_by_cut NoMemory cut = cut

        pub queue_cut_off : (cut : Cut) → IsCut cut (queue_alone cat core qs p.piece (answer_of outcome)) core new → IsCut cut (play_queue cat (session_of core hs qs) n outcome) core new
        queue_cut_off cut is_cut = subst (λ x. IsCut cut x core new) (sym (queue_played false other)) (queue_by_cut cut is_cut)
