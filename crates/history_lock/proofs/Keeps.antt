-- Each step keeps the rule.
use Rattle.std.proofs.Common.{◌≡◌, ℕ, zero, suc, ◌+◌, ◌%◌, ◌^◌, ◌<◌, ◌≤◌, ◌≢◌, ◌⊎◌, List, [], ◌∷◌, ◌++◌, length, get_or, set, sym, refl, ap, subst, ◌∙◌, inl, inr, ⊎_elim, arith, Option as Maybe, Some, IfSome, subst₂, append-nil, append_assoc, length-append}
use mathlib.Core.Logic.{dite}
use native.Mathlib.Decide.{ℕ_discrete, dec_le}
use mathlib.Core.Option.{Option as Opt, none, some, some-injective, some-ne-none}
use lib.ListN.{get_elem?}
use Rattle.atomic_table.specs.Table.{State, Me, keeps, takes, gives, stepped, Allows}
use Rattle.atomic_table.proofs.Lists.{at_set, at_last, set_again, set_here, set_else}
use Rattle.history_lock.specs.declared.view.View.{View}
use Rattle.history_lock.specs.Weights.{total, weigh, weigh_from, AllStand}
use Rattle.history_lock.specs.Rule.{SeatInvariant, NoSharedTicket, AtHome, IsOut, DeskInvariant, resting, clear, waiting, turning, Took}
use Rattle.history_lock.proofs.Sums.{total-set, term_le, totals_le, weigh-append, weigh_from-snoc, stand_longer, stand-append}

module _ {O X : Type 0} where
  -- a fact of each view, where one changes
  pub each_set : {P Q : View O X → Type 0} (views : List (View O X)) (id : ℕ) (w : View O X) → ((k : ℕ) (u : View O X) → get_elem? views k ≡ some u → P u)
      → ((k : ℕ) (u : View O X) → k ≢ id → get_elem? views k ≡ some u → P u → Q u) → Q w → (k : ℕ) (u : View O X) → get_elem? (set views id w) k ≡ some u → Q u
  each_set {P} {Q} views id w all others mine k u e = ⊎_elim (λ (t : (k ≡ id) × (w ≡ u)). subst Q t.1 mine) (λ (t : (k ≢ id) × (get_elem? views k ≡ some u)). others k u t.0 t.1 (all k u t.1)) (at_set views id k w u e)

  -- the view that changes has no ticket of another's
  pub alone_set : (views : List (View O X)) (id : ℕ) (w : View O X) → NoSharedTicket views
      → ((k : ℕ) (u : View O X) → k ≢ id → get_elem? views k ≡ some u → u.drawn ≡ 1 → w.drawn ≡ 1 → u.ticket ≡ w.ticket → ⊥) → NoSharedTicket (set views id w)
  alone_set views id w alone other j k u x e d = ⊎_elim
      (λ (a : (j ≡ id) × (w ≡ u)). ⊎_elim (λ (b : (k ≡ id) × (w ≡ x)). λ _ _ _. a.0 ∙ sym b.0)
      (λ (b : (k ≢ id) × (get_elem? views k ≡ some x)). λ p q r. absurd (other k x b.0 b.1 q (ap (λ (y : View O X). y.drawn) a.1 ∙ p) (sym r ∙ ap (λ (y : View O X). y.ticket) (sym a.1)))) (at_set views id k w x d))
      (λ (a : (j ≢ id) × (get_elem? views j ≡ some u)). ⊎_elim (λ (b : (k ≡ id) × (w ≡ x)). λ p q r. absurd (other j u a.0 a.1 p (ap (λ (y : View O X). y.drawn) b.1 ∙ q) (r ∙ ap (λ (y : View O X). y.ticket) (sym b.1))))
      (λ (b : (k ≢ id) × (get_elem? views k ≡ some x)). alone j k u x a.1 b.1) (at_set views id k w x d))
      (at_set views id j w u e)

module _ {O X : Type 0} {o : O} {history : List X} {serving tickets : ℕ} {u : View O X} where
  -- what a step of another leaves of a view
  seated_on : SeatInvariant o history serving tickets u → (more after : List X) (serving' tickets' : ℕ) → history ++ more ≡ after → tickets ≤ tickets' → (u.drawn ≡ 1 → serving' ≤ u.ticket)
      → (u.turn ≡ 1 → (u.drawn ≡ 1) × (u.ticket ≡ serving') × (u.seen ≡ after) × (length after ≡ serving' + u.counted)) → SeatInvariant o after serving' tickets' u
  seated_on old more after serving' tickets' is le low turned = record {
    opened = old.opened;
    later = old.later ++ more;
    past = old.past ++ more;
    told = sym (append_assoc u.heard old.past more) ∙ ap (λ (l : List X). l ++ more) old.told ∙ is;
    prefix = sym (append_assoc u.seen old.later more) ∙ ap (λ (l : List X). l ++ more) old.prefix ∙ is;
    stand = subst (λ (l : List X). AllStand l u.places) is (stand_longer history more u.places old.stand);
    busy = old.busy;
    idle = old.idle;
    queued = λ e. (low e, omega (arith, (old.queued e).1));
    turned = turned;
  }

module _ {S X : Type 0} (stands_for : S → List X → S → Type 0) (o : S) where
  abbrev pub V : Type 0
  V = View S X

  abbrev pub Slot : Type 0
  Slot = Opt (Maybe S)

  abbrev pub St : Type 0
  St = State (Maybe S) V

  -- one view changes, and the words, the slot and the history with it
  pub changed : (s : St) (old : DeskInvariant stands_for o s) (id : ℕ) (v w : V) → get_elem? s.views id ≡ some v → (new : St) (history : List X) (serving tickets : ℕ)
      → new.views ≡ set s.views id w
      → new.words ≡ serving ∷ tickets ∷ length history ∷ old.counts
      → ((k : ℕ) (u : V) → k ≢ id → get_elem? s.views k ≡ some u → SeatInvariant o old.history old.serving old.tickets u → SeatInvariant o history serving tickets u)
      → SeatInvariant o history serving tickets w
      → ((k : ℕ) (u : V) → k ≢ id → get_elem? s.views k ≡ some u → u.drawn ≡ 1 → w.drawn ≡ 1 → u.ticket ≡ w.ticket → ⊥)
      → AtHome stands_for o history serving new ⊎ IsOut new
      → serving + w.drawn + old.tickets ≡ tickets + v.drawn + old.serving
      → tickets + w.cleared + total (λ u. u.cleared) s.views ≤ 2 ^ 63 + 2 ^ 62 + v.cleared
      → w.share ≡ v.share
      → ((h : ℕ → X → ℕ) → weigh h w.places + weigh_from h 0 old.history ≡ weigh h v.places + weigh_from h 0 history)
      → DeskInvariant stands_for o new
  changed s old id v w at new history serving tickets views words others mine other slot drawn bound share placed = record {
    history = history;
    serving = serving;
    tickets = tickets;
    counts = old.counts;
    words = words;
    each = subst (λ (l : List V). (k : ℕ) (u : V) → get_elem? l k ≡ some u → SeatInvariant o history serving tickets u) (sym views) (each_set s.views id w old.each others mine);
    alone = subst NoSharedTicket (sym views) (alone_set s.views id w old.alone other);
    slot = slot;
    drawn = omega (arith, ap (total (λ u. u.drawn)) views, total-set (λ (u : V). u.drawn) s.views id v w at, old.drawn, drawn);
    bound = omega (arith, ap (total (λ u. u.cleared)) views, total-set (λ (u : V). u.cleared) s.views id v w at, bound);
    shares = omega (arith, ap (total (λ u. u.share)) views, total-set (λ (u : V). u.share) s.views id v w at, old.shares, share);
    placed = λ h. omega (arith, ap (total (λ u. weigh h u.places)) views, total-set (λ (u : V). weigh h u.places) s.views id v w at, old.placed h, placed h);
  }

  -- two views at one place are one
  pub same_view : (views : List V) (id k : ℕ) (v u : V) → get_elem? views id ≡ some v → get_elem? views k ≡ some u → k ≡ id → v ≡ u
  same_view views id k v u at there e = some-injective v u (sym at ∙ subst (λ (i : ℕ). get_elem? views i ≡ some u) e there)

  -- a view without the turn changes to another, and the slot stays as it is
  pub slot_stays : (s new : St) (id : ℕ) (v w : V) (history : List X) (serving : ℕ) → get_elem? s.views id ≡ some v → v.turn ≢ 1 → w.turn ≢ 1
      → new.homes ≡ s.homes → new.views ≡ set s.views id w → AtHome stands_for o history serving s ⊎ IsOut s → AtHome stands_for o history serving new ⊎ IsOut new
  slot_stays s new id v w history serving at before after homes views slot = ⊎_elim
      (λ (h : AtHome stands_for o history serving s). inl (
        h.0,
        homes ∙ h.1,
        h.2,
        h.3,
        subst (λ (l : List V). (k : ℕ) (u : V) → get_elem? l k ≡ some u → u.turn ≢ 1) (sym views) (each_set {P = λ u. u.turn ≢ 1} {Q = λ u. u.turn ≢ 1} s.views id w h.4 (λ k u n e z. z) after),
      ))
      (λ (h : IsOut s). inr (
        h.0,
        h.1,
        homes ∙ h.2,
        (let apart : h.0 ≢ id = λ e. before (ap (λ (y : V). y.turn) (same_view s.views id h.0 v h.1 at h.3 e) ∙ h.4) in
            ap (λ (l : List V). get_elem? l h.0) views ∙ set_else s.views id h.0 w apart ∙ h.3),
        h.4,
      ))
      slot

  pub word_0 : (s : St) (k : DeskInvariant stands_for o s) → get_or s.words 0 0 ≡ k.serving
  word_0 s k = ap (λ (l : List ℕ). get_or l 0 0) k.words

  pub word_1 : (s : St) (k : DeskInvariant stands_for o s) → get_or s.words 1 0 ≡ k.tickets
  word_1 s k = ap (λ (l : List ℕ). get_or l 1 0) k.words

  pub word_2 : (s : St) (k : DeskInvariant stands_for o s) → get_or s.words 2 0 ≡ length k.history
  word_2 s k = ap (λ (l : List ℕ). get_or l 2 0) k.words

  -- a view that goes on, with the history as it was, and no ticket
  alike : (s : St) (k : DeskInvariant stands_for o s) (tickets : ℕ) → k.tickets ≤ tickets → (j : ℕ) (u : V) → SeatInvariant o k.history k.serving k.tickets u → SeatInvariant o k.history k.serving tickets u
  alike s k tickets le j u old = seated_on old [] k.history k.serving tickets (append-nil k.history) le (λ e. (old.queued e).0) old.turned

  pub draws : (slots id : ℕ) (p : Maybe S) (seen : List X) (places : List (ℕ × X)) (share : ℕ) (c : List (ℕ × Maybe S))
      → Allows (DeskInvariant stands_for o) slots id (clear p seen places share, c) 1 (λ n. (n + 1) % 2 ^ 64) (λ found after. after ≡ (waiting p seen places share found, c))
  draws slots id p seen places share c s k wide at small =
      let v = clear p seen places share in
      let t = get_or s.words 1 0 in
      let w = waiting p seen places share t in
      let new : St = stepped s 1 ((t + 1) % 2 ^ 64) id c w keeps in
      let mine = k.each id v at in
      let e1 : t ≡ k.tickets = word_1 s k in
      let part = term_le (λ (u : V). u.cleared) s.views id v at in
      let one : 1 ≤ total (λ (u : V). u.cleared) s.views = part in
      let low : (t + 1) % 2 ^ 64 ≡ k.tickets + 1 = omega (arith, e1, k.bound, one) in (
        w,
        keeps,
        tt,
        changed s k id v w at new k.history k.serving (k.tickets + 1) refl
            (ap (λ (l : List ℕ). set l 1 ((t + 1) % 2 ^ 64)) k.words ∙ ap (λ (n : ℕ). k.serving ∷ n ∷ length k.history ∷ k.counts) low)
            (λ j u n there old. alike s k (k.tickets + 1) (omega arith) j u old)
            (record {
              opened = mine.opened;
              past = mine.past;
              told = mine.told;
              later = mine.later;
              prefix = mine.prefix;
              stand = mine.stand;
              busy = mine.busy;
              idle = mine.idle;
              queued = λ _. (omega (arith, k.drawn, e1), omega (arith, e1));
              turned = λ z. absurd (omega arith);
            })
            (λ j u n there d _ same. let q = ((k.each j u there).queued d).1 in omega (arith, e1, q, same))
            (slot_stays s new id v w k.history k.serving at (λ z. omega arith) (λ z. omega arith) refl refl k.slot)
            (omega (arith, k.drawn))
            (omega (arith, k.bound, one))
            refl
            (λ h. refl),
        refl,
      )

  -- without a ticket, a look at `serving` clears it to draw
  pub clears : (slots id : ℕ) (p : Maybe S) (seen : List X) (places : List (ℕ × X)) (share : ℕ) (c : List (ℕ × Maybe S)) → 1 ≤ share
      → Allows (DeskInvariant stands_for o) slots id (resting p seen places share, c) 0 (λ n. n) (λ found after. (found < 2 ^ 63 → after ≡ (clear p seen places share, c)) × (2 ^ 63 ≤ found → after ≡ (resting p seen places share, c)))
  clears slots id p seen places share c some_share s k wide at small =
      let v = resting p seen places share in
      let e0 = word_0 s k in
      let mine = k.each id v at in
      dite (dec_le (2 ^ 63) (get_or s.words 0 0))
      (λ late. (
        v,
        keeps,
        tt,
        changed s k id v v at (stepped s 0 (get_or s.words 0 0) id c v keeps) k.history k.serving k.tickets refl
            (ap (λ (l : List ℕ). set l 0 (get_or s.words 0 0)) k.words ∙ ap (λ (n : ℕ). n ∷ k.tickets ∷ length k.history ∷ k.counts) e0)
            (λ j u n there old. old)
            mine
            (λ j u n there d q same. absurd (omega arith))
            (slot_stays s (stepped s 0 (get_or s.words 0 0) id c v keeps) id v v k.history k.serving at (λ z. omega arith) (λ z. omega arith) refl refl k.slot)
            (omega arith)
            (omega (arith, k.bound))
            refl
            (λ h. refl),
        ((λ early. absurd (omega arith)), λ _. refl),
      ))
      (λ early.
      let w = clear p seen places share in
      let both = totals_le (λ (u : V). u.cleared) (λ (u : V). u.drawn) (λ (u : V). u.share) (set s.views id w) (each_set {P = λ u. u.cleared + u.drawn ≤ u.share} {Q = λ u. u.cleared + u.drawn ≤ u.share} s.views id w (λ j u there. (k.each j u there).busy) (λ j u n there le. le) some_share) in
      let c1 = total-set (λ (u : V). u.cleared) s.views id v w at in
      let d1 = total-set (λ (u : V). u.drawn) s.views id v w at in
      let s1 = total-set (λ (u : V). u.share) s.views id v w at in (
        w,
        keeps,
        tt,
        changed s k id v w at (stepped s 0 (get_or s.words 0 0) id c w keeps) k.history k.serving k.tickets refl
            (ap (λ (l : List ℕ). set l 0 (get_or s.words 0 0)) k.words ∙ ap (λ (n : ℕ). n ∷ k.tickets ∷ length k.history ∷ k.counts) e0)
            (λ j u n there old. old)
            (record {
              opened = mine.opened;
              past = mine.past;
              told = mine.told;
              later = mine.later;
              prefix = mine.prefix;
              stand = mine.stand;
              busy = some_share;
              idle = mine.idle;
              queued = λ z. absurd (omega arith);
              turned = λ z. absurd (omega arith);
            })
            (λ j u n there d q same. absurd (omega arith))
            (slot_stays s (stepped s 0 (get_or s.words 0 0) id c w keeps) id v w k.history k.serving at (λ z. omega arith) (λ z. omega arith) refl refl k.slot)
            (omega arith)
            (omega (arith, both, c1, d1, s1, k.shares, k.drawn, e0, early))
            refl
            (λ h. refl),
        ((λ _. refl), λ late. absurd (omega (arith, early))),
      ))

  -- one of the counts behind the first three words rises: nothing depends on them
  pub announces : (slots id : ℕ) (m : Me (Maybe S) V) (word : ℕ) → Allows (DeskInvariant stands_for o) slots id m (suc (suc (suc word))) (λ n. (n + 1) % 2 ^ 64) (λ found after. after ≡ m)
  announces slots id m word s k wide at small =
      let i = suc (suc (suc word)) in
      let raised = (get_or s.words i 0 + 1) % 2 ^ 64 in (
        m.0,
        keeps,
        tt,
        subst (λ (l : List V). DeskInvariant stands_for o (record { words = set s.words i raised; homes = s.homes; views = l })) (sym (set_again s.views id m.0 at)) (record {
          history = k.history;
          serving = k.serving;
          tickets = k.tickets;
          counts = set k.counts word raised;
          words = ap (λ (l : List ℕ). set l i raised) k.words;
          each = k.each;
          alone = k.alone;
          slot = k.slot;
          drawn = k.drawn;
          bound = k.bound;
          shares = k.shares;
          placed = k.placed;
        }),
        refl,
      )

  pub at_length : (views : List V) (i : ℕ) (v : V) → get_elem? views i ≡ some v → i < length views
  at_length [] i v e = absurd (some-ne-none v (sym e))
  at_length (x ∷ xs) zero v e = omega arith
  at_length (x ∷ xs) (suc i) v e = let h = at_length xs i v e in omega arith

  -- who has the ticket that is served has no other beside it with the turn
  pub only_turn : (s : St) (k : DeskInvariant stands_for o s) (id j : ℕ) (v u : V) → get_elem? s.views id ≡ some v → get_elem? s.views j ≡ some u → v.drawn ≡ 1 → v.ticket ≡ k.serving → u.turn ≡ 1 → j ≡ id
  only_turn s k id j v u at there has same turn = let t = (k.each j u there).turned turn in k.alone j id u v there at t.0 has (t.1 ∙ sym same)

  -- a look at `serving` takes the slot where the word is the ticket
  pub looks : (slots id : ℕ) (p : Maybe S) (seen : List X) (places : List (ℕ × X)) (share n : ℕ)
      → Allows (DeskInvariant stands_for o) slots id (waiting p seen places share n, []) 0 (λ m. m)
      (λ found after. (found ≡ n → Took stands_for p seen places share n after) × (found ≢ n → after ≡ (waiting p seen places share n, [])))
  looks slots id p seen places share n s k wide at small =
      let v = waiting p seen places share n in
      let e0 = word_0 s k in
      let mine = k.each id v at in
      dite (ℕ_discrete (get_or s.words 0 0) n)
      (λ now. let served : n ≡ k.serving = sym now ∙ e0 in ⊎_elim
      (λ (h : AtHome stands_for o k.history k.serving s).
      let w = turning p (seen ++ mine.later) places share n 0 in
      let new : St = stepped s 0 (get_or s.words 0 0) id [] w (takes 0 (Some h.0)) in (
        w,
        takes 0 (Some h.0),
        ap (λ (l : List Slot). get_elem? l 0) h.1,
        changed s k id v w at new k.history k.serving k.tickets refl
            (ap (λ (l : List ℕ). set l 0 (get_or s.words 0 0)) k.words ∙ ap (λ (m : ℕ). m ∷ k.tickets ∷ length k.history ∷ k.counts) e0)
            (λ j u m there old. old)
            (record {
              opened = mine.opened;
              past = mine.past;
              told = mine.told;
              later = [];
              prefix = append-nil (seen ++ mine.later) ∙ mine.prefix;
              stand = mine.stand;
              busy = mine.busy;
              idle = mine.idle;
              queued = mine.queued;
              turned = λ _. (refl, served, mine.prefix, omega (arith, h.3));
            })
            (λ j u m there d q same. m (k.alone j id u v there at d refl same))
            (inr (id, w, ap (λ (l : List Slot). set l 0 none) h.1, set_here s.views id w (at_length s.views id v at), refl))
            (omega arith)
            (omega (arith, k.bound))
            refl
            (λ h. refl),
        (
          (λ _. (
            h.0,
            mine.later,
            refl,
            subst₂ (λ (q : Maybe S) (l : List X). IfSome q (λ z. stands_for z l h.0)) (sym (mine.opened mine.busy)) (sym mine.prefix) h.2,
            ap length mine.prefix ∙ h.3 ∙ sym served,
            subst (λ (l : List X). AllStand l places) (sym mine.prefix) mine.stand,
            omega (arith, (mine.queued refl).1, k.bound),
          )),
          λ other. absurd (other now),
        ),
      ))
      (λ (h : IsOut s). absurd (let e = only_turn s k id h.0 v h.1 at h.3 refl served h.4 in let z = ap (λ (y : V). y.turn) (same_view s.views id h.0 v h.1 at h.3 e) ∙ h.4 in omega arith))
      k.slot)
      (λ other. (
        v,
        keeps,
        tt,
        changed s k id v v at (stepped s 0 (get_or s.words 0 0) id [] v keeps) k.history k.serving k.tickets refl
            (ap (λ (l : List ℕ). set l 0 (get_or s.words 0 0)) k.words ∙ ap (λ (m : ℕ). m ∷ k.tickets ∷ length k.history ∷ k.counts) e0)
            (λ j u n there old. old)
            mine
            (λ j u m there d q same. m (k.alone j id u v there at d refl same))
            (slot_stays s (stepped s 0 (get_or s.words 0 0) id [] v keeps) id v v k.history k.serving at (λ z. omega arith) (λ z. omega arith) refl refl k.slot)
            (omega arith)
            (omega (arith, k.bound))
            refl
            (λ h. refl),
        ((λ now. absurd (other now)), λ _. refl),
      ))

  -- the entry is the next of the history
  pub counts : (slots id : ℕ) (p : Maybe S) (seen : List X) (places : List (ℕ × X)) (share n : ℕ) (c : List (ℕ × Maybe S)) (e : X)
      → Allows (DeskInvariant stands_for o) slots id (turning p seen places share n 0, c) 2 (λ m. (m + 1) % 2 ^ 64)
      (λ found after. (found ≡ n) × (after ≡ (turning p (seen ++ e ∷ []) (places ++ (n + 1, e) ∷ []) share n 1, c)))
  counts slots id p seen places share n c e s k wide at small =
      let v = turning p seen places share n 0 in
      let w = turning p (seen ++ e ∷ []) (places ++ (n + 1, e) ∷ []) share n 1 in
      let m = get_or s.words 2 0 in
      let new : St = stepped s 2 ((m + 1) % 2 ^ 64) id c w keeps in
      let e2 = word_2 s k in
      let mine = k.each id v at in
      let now = mine.turned refl in
      let line = mine.queued refl in
      let served : n ≡ k.serving = now.1 in
      let long : length k.history ≡ n = omega (arith, now.3, served) in
      let longer : length (k.history ++ e ∷ []) ≡ length k.history + 1 = omega (arith, length-append k.history (e ∷ [])) in
      let next : (m + 1) % 2 ^ 64 ≡ length (k.history ++ e ∷ []) = omega (arith, e2, k.bound, long, line.1, longer) in (
        w,
        keeps,
        tt,
        changed s k id v w at new (k.history ++ e ∷ []) k.serving k.tickets refl
            (ap (λ (l : List ℕ). set l 2 ((m + 1) % 2 ^ 64)) k.words ∙ ap (λ (q : ℕ). k.serving ∷ k.tickets ∷ q ∷ k.counts) next)
            (λ j u q there old. seated_on old (e ∷ []) (k.history ++ e ∷ []) k.serving k.tickets refl (omega arith) (λ d. (old.queued d).0) (λ t. absurd (q (only_turn s k id j v u at there refl served t))))
            (record {
              opened = mine.opened;
              past = mine.past ++ e ∷ [];
              told = sym (append_assoc [] mine.past (e ∷ [])) ∙ ap (λ (l : List X). l ++ e ∷ []) mine.told;
              later = [];
              prefix = append-nil (seen ++ e ∷ []) ∙ ap (λ (l : List X). l ++ e ∷ []) now.2;
              stand = stand-append (k.history ++ e ∷ []) places ((n + 1, e) ∷ []) (stand_longer k.history (e ∷ []) places mine.stand) ((n, refl, at_last k.history e n long), tt);
              busy = mine.busy;
              idle = λ z. absurd (let b : 1 ≤ share = mine.busy in omega arith);
              queued = mine.queued;
              turned = λ _. (refl, served, ap (λ (l : List X). l ++ e ∷ []) now.2, omega (arith, longer, long, served));
            })
            (λ j u q there d t same. q (k.alone j id u v there at d refl same))
            (⊎_elim (λ (h : AtHome stands_for o k.history k.serving s). absurd (h.4 id v at refl)) (λ (h : IsOut s). inr (id, w, h.2, set_here s.views id w (at_length s.views id v at), refl)) k.slot)
            (omega arith)
            (omega (arith, k.bound))
            refl
            (λ h. let z : 0 + length k.history + 1 ≡ n + 1 = omega (arith, long) in omega (arith, weigh-append h places ((n + 1, e) ∷ []), weigh_from-snoc h 0 k.history e, ap (λ (q : ℕ). h q e) z)),
        (e2 ∙ long, refl),
      )

  -- the next ticket is served, and the slot is at home
  pub passes : (slots id : ℕ) (p : Maybe S) (seen : List X) (places : List (ℕ × X)) (share n : ℕ) (x : S) → IfSome p (λ z. stands_for z seen x)
      → Allows (DeskInvariant stands_for o) slots id (turning p seen places share n 1, (0, Some x) ∷ []) 0 (λ m. (m + 1) % 2 ^ 64)
      (λ found after. after ≡ (resting p seen places share, []))
  passes slots id p seen places share n x stands s k wide at small =
      let v = turning p seen places share n 1 in
      let w = resting p seen places share in
      let c : List (ℕ × Maybe S) = (0, Some x) ∷ [] in
      let m = get_or s.words 0 0 in
      let new : St = stepped s 0 ((m + 1) % 2 ^ 64) id c w gives in
      let e0 = word_0 s k in
      let mine = k.each id v at in
      let now = mine.turned refl in
      let line = mine.queued refl in
      let served : n ≡ k.serving = now.1 in
      let next : (m + 1) % 2 ^ 64 ≡ k.serving + 1 = omega (arith, e0, k.bound, served, line.1) in (
        w,
        gives,
        tt,
        changed s k id v w at new k.history (k.serving + 1) k.tickets refl
            (ap (λ (l : List ℕ). set l 0 ((m + 1) % 2 ^ 64)) k.words ∙ ap (λ (q : ℕ). q ∷ k.tickets ∷ length k.history ∷ k.counts) next)
            (λ j u q there old. seated_on old [] k.history (k.serving + 1) k.tickets (append-nil k.history) (omega arith)
            (λ d. let low = (old.queued d).0 in let ne : u.ticket ≢ n = λ same. q (k.alone j id u v there at d refl same) in omega (arith, low, ne, served))
            (λ t. absurd (q (only_turn s k id j v u at there refl served t))))
            (record {
              opened = mine.opened;
              past = mine.past;
              told = mine.told;
              later = mine.later;
              prefix = mine.prefix;
              stand = mine.stand;
              busy = omega arith;
              idle = mine.idle;
              queued = λ z. absurd (omega arith);
              turned = λ z. absurd (omega arith);
            })
            (λ j u q there d t same. absurd (omega arith))
            (⊎_elim (λ (h : AtHome stands_for o k.history k.serving s). absurd (h.4 id v at refl))
            (λ (h : IsOut s). inl (
              x,
              ap (λ (l : List Slot). set l 0 (some (Some x))) h.2,
              subst₂ (λ (q : Maybe S) (l : List X). IfSome q (λ z. stands_for z l x)) (mine.opened mine.busy) now.2 stands,
              omega (arith, now.3),
              each_set {P = λ _. Unit {0}} {Q = λ u. u.turn ≢ 1} s.views id w (λ j u there. tt) (λ j u q there _ t. q (only_turn s k id j v u at there refl served t)) (λ z. omega arith),
            ))
            k.slot)
            (omega arith)
            (omega (arith, k.bound))
            refl
            (λ h. refl),
        refl,
      )
