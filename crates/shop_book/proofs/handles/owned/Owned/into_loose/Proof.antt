-- `into_loose` takes a handle that holds a box apart, and what it owned is the `Loose`'s.
use Rattle.std.proofs.Common.{◌≡◌, List, [], ◌∷◌, ◌++◌, refl, sym, ap, ◌∙◌, subst}
use mir.Syntax.{Fn}
use mir.Val.{Val, vptr}
use base.Logic.{SProp, ent, emp, id⊢}
use base.Fml.{ftrue}
use prog.Wp.{WpFn}
use types.Kit.{‵, raw, ◌⊛◌, ◌$◌, ◌∵◌, !, qed, by, move, keep, drop, split, fsplit, fjoin, suffices, use0}
use types.Run.{stop, fld, of_opd, no_more, and_then, returns, enter}
use types.ByLocal.{alloc_all, pass_all, free_all, look_at, get, get_in, sets}
use types.Part.{agg, sub, whole}
use contract.Monad.{fact, fact_i}
use contract.Running.{tables}
use denote.Exit.{yes}
use denote.RattleType.{owns}
use denote.Signature.{types_at, plain}
use denote.RawPtr.{Ptr, block_ptr}
use denote.Steps.{nothing, heard}
use denote.Triple.Entry.{alive}
use denote.Triple.Walked.{Stays, stay_dropped, walk_of}
use Rattle.core.proofs.alloc.Calls.{Goes-blank, handle_tells}
use Rattle.std.specs.Prelude.{Some, IsTrue, is_some}
use Rattle.std.specs.contracts.impls.GlobalAllocator.TheImpl.{ghosts}
use Rattle.std.proofs.raw_atomic.Walks.{proved_at, leaves}
use Rattle.shop_book.proofs.Values.{al, both, held_of, loose_good, loose_in, owned_val, owned_good, owned_out, box_of_held, R, Z, LZ, Owned}
use Rattle.shop_book.specs.contracts.handles.owned.Owned.into_loose.{ended, clauses}
use Rattle.shop_book.specs.contracts.handles.owned.Owned.into_loose.Key.{name as #self}
use Rattle.shop_book.proofs.handles.owned.Owned.into_loose.Statement.{statement}
use Rattle.shop_book.proofs.handles.owned.Owned.into_loose.Code as code

pub into_loose_spec : {M : Type 1} → statement M
into_loose_spec 𝓤 𝓛 𝓜 𝓡 wired =
    let H = 𝓛.H in let 𝓣 = tables 𝓤 H 𝓜 𝓡 𝓡.env in let En = ended in let c = clauses 𝓛 𝓜.mem 𝓡.returns in let fn : Fn = code.function in
    let hs : Stays En.signature.params En.kept = (stay_dropped (plain (λ _. Owned)) yes, (stay_dropped (plain (λ _. Z)) yes, tt)) in
    proved_at 𝓛 En hs c 𝓜 𝓡 (Goes-blank 𝓛 0 (plain (λ _. Owned)) yes (λ κs x f. tt), (Goes-blank 𝓛 0 (plain (λ _. Z)) yes (λ κs x f. tt), tt)) #self fn (code.unfolded 𝓤 H 𝓜 𝓡 wired) (λ z are.
    let d = z.0.3.0 in let a = z.0.3.1.0 in let Post : Val → SProp 𝓤 = (walk_of 𝓛 En hs c).post z in let Run : List Val → SProp 𝓤 = λ ws. WpFn 𝓤 H 𝓣.C 𝓣.Λ fn ws Post in
    qed 𝓛 ((raw (alive 𝓛 En.signature z.0.0 z.0.1) ⊛ ‵ (owns (types_at En.signature.params z.0.0) z.0.3 z.0.4)) ∷ raw (fact 𝓤 (IsTrue (is_some d.held))) ∷ []) ∵ move ! (1 ∷ []) $ heard ! (IsTrue (is_some d.held)) (λ some. let found = held_of d.held some in let kept = found.0 in let has = found.1 in split ! $ move ! (1 ∷ []) $ fsplit ! $
    owned_out ! d z.0.4.0 (λ ws. box_of_held ! d kept has (λ b o e. move ! (1 ∷ []) $ fsplit ! $ handle_tells (al R Z LZ ghosts) ! a z.0.4.1.0 (λ h ha fits.
    let p : Ptr = block_ptr b o in let w : Val = owned_val p in let typed = loose_good R Z LZ ghosts b o h fits in let told : z.0.4.0 ≡ w ∷ [] = ws ∙ ap (λ (q : Ptr). owned_val q ∷ []) e in
    suffices ! (Run (w ∷ h ∷ [])) (subst (λ (us : List Val). ent 𝓤 (Run (w ∷ h ∷ [])) (Run us)) (sym (λ i. told i ++ (ha i ++ []))) (id⊢ 𝓤 (Run (w ∷ h ∷ [])))) $
    enter ! 𝓣.C 𝓣.Λ fn (w ∷ h ∷ []) Post $ alloc_all ! (λ l. pass_all ! refl (owned_good p, (fits, tt)) $
    sets ! (of_opd ! (get_in ! (fld ! refl (stop !)) (sub ! 0 refl (whole !)))) refl (tt, tt) $
    sets ! (of_opd ! (get ! refl)) refl (tt, tt) $
    sets ! (agg ! (and_then ! (get ! refl) (and_then ! (get ! refl) (no_more !)))) refl typed $
    move ! (2 ∷ 0 ∷ []) $ loose_in R Z LZ ghosts ! b o h a kept $
    use0 𝓛 (raw (fact 𝓤 (d.held ≡ Some kept))) (fact_i 𝓤 (d.held ≡ Some kept) (emp 𝓤) has) $ nothing ! $ nothing ! $ fjoin ! $ nothing ! $ fjoin ! $
    returns ! (look_at ! 0 refl) $ free_all ! refl $ keep ! (4 ∷ 0 ∷ 2 ∷ 1 ∷ []) $ by ! (leaves 𝓛 En hs c z (both (vptr b o) h) (record { at = p; alloc = a; value = kept }) (tt, (tt, tt)) (tt, (tt, tt)))))))))
