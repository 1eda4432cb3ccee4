-- The net, entry by entry.
use Rattle.std.proofs.Common.{◌≡◌, Bool, true, false, not, List, [], ◌∷◌, ◌++◌, filter, sym, refl, ap, ◌∙◌, append-nil, append_assoc, if◌then◌else◌}
use Rattle.process_tree.specs.declared.entry.Entry.{Entry}
use Rattle.schedule_model.specs.declared.event.Event.{Event}
use Rattle.schedule_model.specs.declared.event.Event.TheVariants.{Start, Act, End}
use Rattle.schedule_model.specs.Histories.{net, same_step}
use Rattle.schedule_model.proofs.Snoc.{net-start, net-end, net-do, net-undo}
use Rattle.schedule_rules.specs.Standing.{stands_after}

-- what stands after more events, where these entries stood
abbrev pub stands_after_all : List Entry → List Event → List Entry
stands_after_all es [] = es
stands_after_all es (Start i ∷ h) = stands_after_all es h
stands_after_all es (Act e ∷ h) = stands_after_all (stands_after es e) h
stands_after_all es (End i ∷ h) = stands_after_all es h

-- an entry does to the net what it does to those that stand
pub net-act : (g : List Event) (e : Entry) → net (g ++ Act e ∷ []) ≡ stands_after (net g) e
net-act g e = by_undo e.undo refl
  where
    by_undo : (u : Bool) → e.undo ≡ u → net (g ++ Act e ∷ []) ≡ stands_after (net g) e
    by_undo true undo = net-undo g e undo ∙ sym (ap (λ u. if u then filter (λ f. not (same_step f e)) (net g) else net g ++ e ∷ []) undo)
    by_undo false is_step = net-do g e is_step ∙ sym (ap (λ u. if u then filter (λ f. not (same_step f e)) (net g) else net g ++ e ∷ []) is_step)

pub stands-from_net : (g h : List Event) → stands_after_all (net g) h ≡ net (g ++ h)
stands-from_net g [] = ap net (sym (append-nil g))
stands-from_net g (Start i ∷ h) =
    ap (λ es. stands_after_all es h) (sym (net-start g i)) ∙ (stands-from_net (g ++ Start i ∷ []) h ∙ ap net (append_assoc g (Start i ∷ []) h))
stands-from_net g (Act e ∷ h) =
    ap (λ es. stands_after_all es h) (sym (net-act g e)) ∙ (stands-from_net (g ++ Act e ∷ []) h ∙ ap net (append_assoc g (Act e ∷ []) h))
stands-from_net g (End i ∷ h) =
    ap (λ es. stands_after_all es h) (sym (net-end g i)) ∙ (stands-from_net (g ++ End i ∷ []) h ∙ ap net (append_assoc g (End i ∷ []) h))

-- the net is what stands after all events where nothing stood
pub stands-net : (h : List Event) → stands_after_all [] h ≡ net h
stands-net h = stands-from_net [] h
