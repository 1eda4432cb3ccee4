-- The rule at the start and at the end, and where seats are cut in two and joined.
use Rattle.std.proofs.Common.{◌≡◌, ℕ, zero, suc, ◌+◌, ◌-◌, ◌/◌, ◌^◌, ◌≤◌, ◌≢◌, List, [], ◌∷◌, ◌++◌, Bool, true, false, cond, nat_lt, nat_eq, ltb, T, le_of_lt, ltb→lt, nltb→le, not, take, drop, length, get_or, set, sym, refl, ap, subst, ◌∙◌, inl, inr, ⊎_elim, arith, Option as Maybe, Some, IfSome, subst₂, eq-eqb, ne_eqb}
use mathlib.Core.Logic.{dite}
use native.Mathlib.Decide.{ℕ_discrete}
use mathlib.Core.Option.{some, some-injective, some-ne-none}
use lib.ListN.{get_elem?}
use Rattle.atomic_table.specs.Table.{State, keeps, stepped, Allows, Splits, Joins, opening}
use Rattle.atomic_table.proofs.Lists.{at_snoc, at_longer, set_else}
use Rattle.history_lock.specs.declared.view.View.{View}
use Rattle.history_lock.specs.Weights.{weigh, weigh_from, AllStand}
use Rattle.history_lock.specs.Rule.{SeatInvariant, NoSharedTicket, AtHome, IsOut, DeskInvariant, NoPlaceTwice, IsWhole, resting, spent, longer, shorter, both, left, right}
use Rattle.history_lock.proofs.Sums.{total-append, total-set, term_le, terms_le, total_alone, weigh-append, stand-append}
use Rattle.history_lock.proofs.Keeps.{changed, each_set, alone_set, slot_stays, word_0, same_view}

module _ {O X : Type 0} where
  each_snoc : {P : View O X → Type 0} (views : List (View O X)) (w : View O X) → ((k : ℕ) (u : View O X) → get_elem? views k ≡ some u → P u) → P w
      → (k : ℕ) (u : View O X) → get_elem? (views ++ w ∷ []) k ≡ some u → P u
  each_snoc {P} views w all mine k u e = ⊎_elim (all k u) (λ (same : w ≡ u). subst P same mine) (at_snoc views w u k e)

  alone_snoc : (views : List (View O X)) (w : View O X) → NoSharedTicket views → w.drawn ≢ 1 → NoSharedTicket (views ++ w ∷ [])
  alone_snoc views w alone free j k u x e d = ⊎_elim
      (λ (a : get_elem? views j ≡ some u). ⊎_elim (λ (b : get_elem? views k ≡ some x). alone j k u x a b) (λ (b : w ≡ x). λ p q r. absurd (free (ap (λ (y : View O X). y.drawn) b ∙ q))) (at_snoc views w x k d))
      (λ (a : w ≡ u). λ p q r. absurd (free (ap (λ (y : View O X). y.drawn) a ∙ p)))
      (at_snoc views w u j e)

abbrev by_bool : Bool → ℕ
by_bool b = cond b 1 0

module _ {X : Type 0} where
  picked : (t : Bool) (history a b la lb : List X) → a ++ la ≡ history → b ++ lb ≡ history → (l : List X) × (cond t b a ++ l ≡ history)
  picked true history a b la lb ea eb = (lb, eb)
  picked false history a b la lb ea eb = (la, ea)

  shorter_le : (a b : List X) → length (shorter a b) ≤ length (longer a b)
  shorter_le a b = by_test (ltb (length a) (length b)) refl
    where
      by_test : (t : Bool) → ltb (length a) (length b) ≡ t → length (cond t a b) ≤ length (cond t b a)
      by_test true e = le_of_lt (ltb→lt (length a) (length b) (subst T (sym e) tt))
      by_test false e = nltb→le (length a) (length b) (subst (λ (b : Bool). T (not b)) (sym e) tt)

  -- of two beginnings of one list, the shorter begins the longer
  pub begins_with : (a b history la lb : List X) → a ++ la ≡ history → b ++ lb ≡ history → length a ≤ length b → (more : List X) × (a ++ more ≡ b)
  begins_with [] b history la lb ea eb le = (b, refl)
  begins_with (x ∷ xs) [] history la lb ea eb le = absurd (omega arith)
  begins_with (x ∷ xs) (y ∷ ys) history la lb ea eb le =
      let e : x ∷ (xs ++ la) ≡ y ∷ (ys ++ lb) = ea ∙ sym eb in
      let r = begins_with xs ys (ys ++ lb) la lb (ap (λ (l : List X). drop 1 l) e) refl (omega arith) in
      (r.0, λ i. get_or (ap (λ (l : List X). take 1 l) e i) 0 x ∷ r.1 i)

  times-from : (n k : ℕ) (history : List X) → (weigh_from (λ m _. cond (nat_eq m n) 1 0) k history ≤ 1) × (n ≤ k → weigh_from (λ m _. cond (nat_eq m n) 1 0) k history ≡ 0)
  times-from n k [] = (omega arith, λ _. refl)
  times-from n k (x ∷ xs) =
      let later = times-from n (k + 1) xs in
      let c : ℕ = cond (nat_eq (k + 1) n) 1 0 in
      dite (ℕ_discrete (k + 1) n)
      (λ same. let one : c ≡ 1 = ap (λ (b : Bool). by_bool b) (eq-eqb (k + 1) n same) in (omega (arith, one, later.1 (omega arith)), λ le. absurd (omega arith)))
      (λ other. let zero-here : c ≡ 0 = ap (λ (b : Bool). by_bool b) (ne_eqb (k + 1) n other) in (omega (arith, zero-here, later.0), λ le. omega (arith, zero-here, later.1 (omega arith))))

module _ {S X : Type 0} (stands_for : S → List X → S → Type 0) (o : S) where
  abbrev seat : View S X
  seat = resting (Some o) [] [] (2 ^ 62)

  single : (P : View S X → Type 0) → P seat → (k : ℕ) (u : View S X) → get_elem? (seat ∷ []) k ≡ some u → P u
  single P mine zero u e = subst P (some-injective seat u e) mine
  single P mine (suc k) u e = absurd (some-ne-none u (sym e))

  pub begins : (counts : List ℕ) (x : S) → stands_for o [] x → DeskInvariant stands_for o (opening (0 ∷ 0 ∷ 0 ∷ counts) (Some x ∷ []) (resting (Some o) [] [] (2 ^ 62)))
  begins counts x stands = record {
    history = [];
    serving = 0;
    tickets = 0;
    counts = counts;
    words = refl;
    each = single (SeatInvariant o [] 0 0) (record {
      opened = λ _. refl;
      later = [];
      prefix = refl;
      past = [];
      told = refl;
      stand = tt;
      busy = omega arith;
      idle = λ _. refl;
      queued = λ z. absurd (omega arith);
      turned = λ z. absurd (omega arith);
    });
    alone = λ j k v w a b p q r. absurd (single (λ u. u.drawn ≢ 1) (λ z. omega arith) j v a p);
    slot = inl (x, refl, stands, refl, single (λ u. u.turn ≢ 1) (λ z. omega arith));
    drawn = refl;
    bound = omega arith;
    shares = refl;
    placed = λ h. refl;
  }

  rested : (history : List X) (serving tickets : ℕ) (p : Maybe S) (seen : List X) (places : List (ℕ × X)) (share : ℕ) (later : List X) → 1 ≤ share → p ≡ Some o → seen ++ later ≡ history → AllStand history places
      → SeatInvariant o history serving tickets (resting p seen places share)
  rested history serving tickets p seen places share later some_share same prefix stand = record {
    opened = λ _. same;
    later = later;
    prefix = prefix;
    past = history;
    told = refl;
    stand = stand;
    busy = omega arith;
    idle = λ z. absurd (omega arith);
    queued = λ z. absurd (omega arith);
    turned = λ z. absurd (omega arith);
  }

  pub splits : (id : ℕ) (p : Maybe S) (seen : List X) (places : List (ℕ × X)) (share : ℕ) → 2 ≤ share
      → Splits (DeskInvariant stands_for o) id (resting p seen places share) (left (resting p seen places share)) (right (resting p seen places share))
  splits id p seen places share two s k at =
      let v = resting p seen places share in
      let a = left v in
      let b = right v in
      let mine = k.each id v at in
      let same : p ≡ Some o = mine.opened (omega arith) in
      let half : share / 2 ≤ share = omega arith in
      let some_a : 1 ≤ share - share / 2 = omega arith in
      let some_b : 1 ≤ share / 2 = omega arith in
      let new : State (Maybe S) (View S X) = record { words = s.words; homes = s.homes; views = set s.views id a } in
      let t = slot_stays stands_for o s new id v a k.history k.serving at (λ z. omega arith) (λ z. omega arith) refl refl k.slot in
      record {
        history = k.history;
        serving = k.serving;
        tickets = k.tickets;
        counts = k.counts;
        words = k.words;
        each = each_snoc {P = SeatInvariant o k.history k.serving k.tickets} (set s.views id a) b
            (each_set {P = SeatInvariant o k.history k.serving k.tickets} {Q = SeatInvariant o k.history k.serving k.tickets} s.views id a k.each (λ j u n there old. old)
            (rested k.history k.serving k.tickets p seen places (share - share / 2) mine.later some_a same mine.prefix mine.stand))
            (rested k.history k.serving k.tickets p seen [] (share / 2) mine.later some_b same mine.prefix tt);
        alone = alone_snoc (set s.views id a) b (alone_set s.views id a k.alone (λ j u n there d q same. absurd (omega arith))) (λ z. omega arith);
        slot = ⊎_elim (λ (h : AtHome stands_for o k.history k.serving new). inl (h.0, h.1, h.2, h.3, each_snoc {P = λ u. u.turn ≢ 1} (set s.views id a) b h.4 (λ z. omega arith)))
            (λ (h : IsOut new). inr (h.0, h.1, h.2, at_longer (set s.views id a) (b ∷ []) h.0 h.1 h.3, h.4)) t;
        drawn = omega (arith, total-append (λ (u : View S X). u.drawn) (set s.views id a) (b ∷ []), total-set (λ (u : View S X). u.drawn) s.views id v a at, k.drawn);
        bound = omega (arith, total-append (λ (u : View S X). u.cleared) (set s.views id a) (b ∷ []), total-set (λ (u : View S X). u.cleared) s.views id v a at, k.bound);
        shares = omega (arith, total-append (λ (u : View S X). u.share) (set s.views id a) (b ∷ []), total-set (λ (u : View S X). u.share) s.views id v a at, k.shares, half);
        placed = λ h. omega (arith, total-append (λ (u : View S X). weigh h u.places) (set s.views id a) (b ∷ []), total-set (λ (u : View S X). weigh h u.places) s.views id v a at, k.placed h);
      }

  pub joins : (id other : ℕ) (p q : Maybe S) (a b : List X) (pa pb : List (ℕ × X)) (sa sb : ℕ) → 1 ≤ sa → 1 ≤ sb
      → Joins (DeskInvariant stands_for o) id (resting p a pa sa) other (resting q b pb sb) (both (resting p a pa sa) (resting q b pb sb)) spent
  joins id other p q a b pa pb sa sb some_a some_b s k at apart there =
      let v = resting p a pa sa in
      let w = resting q b pb sb in
      let m = both v w in
      let middle = set s.views id m in
      let there' : get_elem? s.views other ≡ some w = sym (set_else s.views id other m apart) ∙ there in
      let mine = k.each id v at in
      let yours = k.each other w there' in
      let same : p ≡ Some o = mine.opened some_a in
      let long = picked (nat_lt (length a) (length b)) k.history a b mine.later yours.later mine.prefix yours.prefix in
      let short = picked (nat_lt (length a) (length b)) k.history b a yours.later mine.later yours.prefix mine.prefix in
      let one : State (Maybe S) (View S X) = record { words = s.words; homes = s.homes; views = middle } in
      let two : State (Maybe S) (View S X) = record { words = s.words; homes = s.homes; views = set middle other spent } in
      let P : View S X → Type 0 = SeatInvariant o k.history k.serving k.tickets in
      record {
        history = k.history;
        serving = k.serving;
        tickets = k.tickets;
        counts = k.counts;
        words = k.words;
        each = each_set {P = SeatInvariant o k.history k.serving k.tickets} {Q = SeatInvariant o k.history k.serving k.tickets} middle other spent
            (each_set {P = SeatInvariant o k.history k.serving k.tickets} {Q = SeatInvariant o k.history k.serving k.tickets} s.views id m k.each (λ j u n there old. old)
            (record {
              opened = λ _. same;
              later = long.0;
              prefix = long.1;
              past = short.0;
              told = short.1;
              stand = stand-append k.history pa pb mine.stand yours.stand;
              busy = omega arith;
              idle = λ z. absurd (omega arith);
              queued = λ z. absurd (omega arith);
              turned = λ z. absurd (omega arith);
            }))
            (λ j u n there old. old)
            (record {
              opened = λ z. absurd (omega arith);
              later = k.history;
              prefix = refl;
              past = k.history;
              told = refl;
              stand = tt;
              busy = omega arith;
              idle = λ z. refl;
              queued = λ z. absurd (omega arith);
              turned = λ z. absurd (omega arith);
            });
        alone = alone_set middle other spent (alone_set s.views id m k.alone (λ j u n there d t same. absurd (omega arith))) (λ j u n there d t same. absurd (omega arith));
        slot = slot_stays stands_for o one two other w spent k.history k.serving there (λ z. omega arith) (λ z. omega arith) refl refl
            (slot_stays stands_for o s one id v m k.history k.serving at (λ z. omega arith) (λ z. omega arith) refl refl k.slot);
        drawn = omega (arith, total-set (λ (u : View S X). u.drawn) middle other w spent there, total-set (λ (u : View S X). u.drawn) s.views id v m at, k.drawn);
        bound = omega (arith, total-set (λ (u : View S X). u.cleared) middle other w spent there, total-set (λ (u : View S X). u.cleared) s.views id v m at, k.bound);
        shares = omega (arith, total-set (λ (u : View S X). u.share) middle other w spent there, total-set (λ (u : View S X). u.share) s.views id v m at, k.shares);
        placed = λ h. omega (arith, total-set (λ (u : View S X). weigh h u.places) middle other w spent there, total-set (λ (u : View S X). weigh h u.places) s.views id v m at, weigh-append h pa pb, k.placed h);
      }

  -- a look after a join: no place stands twice, and what was heard is a beginning of what was seen
  pub learns : (slots id : ℕ) (p : Maybe S) (seen heard : List X) (places : List (ℕ × X)) (share : ℕ) → 1 ≤ share
      → Allows (DeskInvariant stands_for o) slots id (record (resting p seen places share) { heard = heard }, []) 0 (λ n. n)
      (λ found after. (after ≡ (resting p seen places share, [])) × NoPlaceTwice places × (length heard ≤ length seen → (more : List X) × (heard ++ more ≡ seen)))
  learns slots id p seen heard places share some_share s k wide at small =
      let v : View S X = record (resting p seen places share) { heard = heard } in
      let w = resting p seen places share in
      let mine = k.each id v at in (
        w,
        keeps,
        tt,
        changed stands_for o s k id v w at (stepped s 0 (get_or s.words 0 0) id [] w keeps) k.history k.serving k.tickets refl
            (ap (λ (l : List ℕ). set l 0 (get_or s.words 0 0)) k.words ∙ ap (λ (m : ℕ). m ∷ k.tickets ∷ length k.history ∷ k.counts) (word_0 stands_for o s k))
            (λ j u n there old. old)
            (rested k.history k.serving k.tickets p seen places share mine.later some_share (mine.opened some_share) mine.prefix mine.stand)
            (λ j u m there d q same. absurd (omega arith))
            (slot_stays stands_for o s (stepped s 0 (get_or s.words 0 0) id [] w keeps) id v w k.history k.serving at (λ z. omega arith) (λ z. omega arith) refl refl k.slot)
            (omega arith)
            (omega (arith, k.bound))
            refl
            (λ h. refl),
        (
          refl,
          (λ n. let h = λ (m : ℕ) (_ : X). cond (nat_eq m n) 1 0 in let part = term_le (λ (u : View S X). weigh h u.places) s.views id v at in omega (arith, part, k.placed h, (times-from n 0 k.history).0)),
          (λ le. begins_with heard seen k.history mine.past mine.later mine.told mine.prefix le),
        ),
      )

  -- the only seat left knows the whole
  pub ends : (s : State (Maybe S) (View S X)) (id : ℕ) (p : Maybe S) (seen : List X) (places : List (ℕ × X)) → DeskInvariant stands_for o s → get_elem? s.views id ≡ some (resting p seen places (2 ^ 62))
      → (x : S) × (s.homes ≡ some (Some x) ∷ []) × IsWhole stands_for p seen places x
  ends s id p seen places k at =
      let v = resting p seen places (2 ^ 62) in
      let mine = k.each id v at in
      let same : p ≡ Some o = mine.opened (omega arith) in
      let others : (j : ℕ) (u : View S X) → j ≢ id → get_elem? s.views j ≡ some u → u.share ≡ 0 = λ j u n there. omega (arith, k.shares, terms_le (λ (y : View S X). y.share) s.views id j v u n at there) in
      ⊎_elim
      (λ (h : AtHome stands_for o k.history k.serving s). (
        h.0,
        h.1,
        (
          mine.later,
          subst₂ (λ (q : Maybe S) (l : List X). IfSome q (λ z. stands_for z l h.0)) (sym same) (sym mine.prefix) h.2,
          subst (λ (l : List X). AllStand l places) (sym mine.prefix) mine.stand,
          λ f. sym (total_alone (λ (u : View S X). weigh f u.places) s.views id v at (λ j u n there. ap (weigh f) ((k.each j u there).idle (others j u n there)))) ∙ k.placed f ∙ ap (weigh_from f 0) (sym mine.prefix),
        ),
      ))
      (λ (h : IsOut s). absurd (
      let e : h.0 ≢ id = λ e. let z = ap (λ (y : View S X). y.turn) (same_view stands_for o s.views id h.0 v h.1 at h.3 e) ∙ h.4 in omega arith in
      let none-left = others h.0 h.1 e h.3 in
      let t = (k.each h.0 h.1 h.3).turned h.4 in
      let b = (k.each h.0 h.1 h.3).busy in
      omega (arith, t.0)))
      k.slot
