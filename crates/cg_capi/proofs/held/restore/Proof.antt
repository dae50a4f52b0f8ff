-- `restore` takes it back.
use Rattle.std.proofs.Common.{◌≡◌, List, [], ◌∷◌, ◌++◌, refl, sym, subst, Some, IsSome}
use mir.Syntax.{Fn}
use mir.Val.{Val, vptr}
use base.Logic.{SProp, ent, emp, id⊢}
use prog.Wp.{WpFn}
use types.Kit.{‵, raw, ◌⊛◌, ◌$◌, ◌∵◌, !, qed, by, move, keep, drop, split, suffices, use0, fsplit, fjoin}
use types.Run.{stop, fld, of_opd, no_more, and_then, returns, enter}
use types.ByLocal.{alloc_all, pass_all, free_all, look_at, get, get_in, sets}
use types.Part.{agg, sub, whole}
use contract.Monad.{fact, fact_i}
use contract.Running.{tables}
use denote.Exit.{yes}
use denote.RattleType.{owns}
use denote.Signature.{types_at, plain}
use denote.Steps.{nothing, heard}
use denote.Triple.Entry.{alive}
use denote.Triple.Walked.{Stays, stay_dropped, walk_of}
use denote.RawPtr.{block_ptr}
use Rattle.std.proofs.alloc.Calls.{Goes-blank, handle_tells}
use Rattle.std.proofs.raw_atomic.Walks.{proved_at, leaves}
use Rattle.cg_capi.proofs.Values.{both, loose_good, loose_in}
use Rattle.cg_capi.proofs.HeldValues.{R, Z, L, H, N, al, one_word, one_word_good, held_out, some_of}
use Rattle.std.specs.contracts.impls.GlobalAllocator.TheImpl.{ghosts}
use Rattle.cg_capi.specs.contracts.held.restore.{ended, clauses}
use Rattle.cg_capi.specs.contracts.held.restore.Key.{name as #self}
use Rattle.cg_capi.proofs.held.restore.Statement.{statement}
use Rattle.cg_capi.proofs.held.restore.Code as code

pub restore_spec : {M : Type 1} → statement M
restore_spec 𝓤 𝓛 𝓜 𝓡 wired =
    let 𝓣 = tables 𝓤 𝓛.H 𝓜 𝓡 𝓡.env in let c = clauses 𝓛 𝓜.mem 𝓡.returns in let fn : Fn = code.function in
    let hs : Stays ended.signature.params ended.kept = (stay_dropped (plain (λ _. Z)) yes, (stay_dropped (plain (λ _. H)) yes, tt)) in
    proved_at 𝓛 ended hs c 𝓜 𝓡 (Goes-blank 𝓛 0 (plain (λ _. Z)) yes (λ κs x f. tt), (Goes-blank 𝓛 0 (plain (λ _. H)) yes (λ κs x f. tt), tt)) #self fn (code.unfolded 𝓤 𝓛.H 𝓜 𝓡 wired) (λ z are.
    let a = z.0.3.0 in let v = z.0.3.1.0 in let Post : Val → SProp 𝓤 = (walk_of 𝓛 ended hs c).post z in let Run : List Val → SProp 𝓤 = λ ws. WpFn 𝓤 𝓛.H 𝓣.C 𝓣.Λ fn ws Post in
    qed 𝓛 ((raw (alive 𝓛 ended.signature z.0.0 z.0.1) ⊛ ‵ (owns (types_at ended.signature.params z.0.0) z.0.3 z.0.4)) ∷ raw (fact 𝓤 (IsSome v.teller)) ∷ []) ∵ move ! (1 ∷ []) $ heard ! (IsSome v.teller) (λ there. let found = some_of v.teller there in let x = found.0 in split ! $ move ! (1 ∷ []) $ fsplit ! $
    handle_tells al ! a z.0.4.0 (λ h ea fits. move ! (1 ∷ []) $ fsplit ! $ held_out ! v x found.1 z.0.4.1.0 (λ b o e ws. let w : Val = one_word (block_ptr b o) in let typed = loose_good R Z L ghosts b o h fits in
    keep ! (0 ∷ 2 ∷ 3 ∷ []) $
    suffices ! (Run (h ∷ w ∷ [])) (subst (λ (us : List Val). ent 𝓤 (Run (h ∷ w ∷ [])) (Run us)) (sym (λ i. ea i ++ (ws i ++ []))) (id⊢ 𝓤 (Run (h ∷ w ∷ [])))) $
    enter ! 𝓣.C 𝓣.Λ fn (h ∷ w ∷ []) Post $ alloc_all ! (λ l. pass_all ! refl (fits, (one_word_good (block_ptr b o), tt)) $
    sets ! (of_opd ! (get_in ! (fld ! refl (stop !)) (sub ! 0 refl (whole !)))) refl (tt, tt) $
    sets ! (of_opd ! (get ! refl)) refl (tt, tt) $
    sets ! (agg ! (and_then ! (get ! refl) (and_then ! (get ! refl) (no_more !)))) refl typed $
    loose_in R Z L ghosts ! b o h a x $
    use0 𝓛 (raw (fact 𝓤 (v.teller ≡ Some x))) (fact_i 𝓤 (v.teller ≡ Some x) (emp 𝓤) found.1) $ nothing ! $ nothing ! $ fjoin ! $ nothing ! $ fjoin ! $
    returns ! (look_at ! 0 refl) $ free_all ! refl $ keep ! (3 ∷ 0 ∷ 2 ∷ 1 ∷ []) $
    by ! (leaves 𝓛 ended hs c z (both (vptr b o) h) (record { at = block_ptr b o; alloc = a; value = x }) (tt, (tt, tt)) (tt, (tt, tt))))))))
