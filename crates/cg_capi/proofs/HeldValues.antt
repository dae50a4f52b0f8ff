-- The machine value of what C holds is a pointer.
use Rattle.std.proofs.Common.{◌≡◌, ℕ, List, [], ◌∷◌, ◌++◌, refl, sym, ap, ◌∙◌, subst, lit<, Option, Some, None, IsSome}
use Rattle.std.proofs.lemmas.Bool.{false≢true}
use lib.Dec.{T}
use seplogic.Ra.Ura.{Ura}
use mir.Syntax.{impl, dnil, ty_ptr, ty_struct, tcons, tnil}
use mir.Raw.{raw as bare}
use mir.Val.{Val, vptr, vstruct, vcons, vnil, of_list}
use base.Fml.{Fml, ftrue}
use base.Logic.{never, fst∗, emp, ent}
use types.Logic.{Logic, sem}
use types.Kit.{Item, Goal, Seq, Step, step, ‵, ◌$◌, move, drop, fsplit, fjoin, fpick, fpack, feq_i, feq_l, rewrite}
use denote.RattleType.{RattleType, Valss}
use denote.Builtin.{RawPtr}
use denote.Memory.{lone}
use denote.RawPtr.{Ptr, block_ptr, null_ptr, ptr_val, in_a_block}
use denote.Steps.{nothing}
use denote.Struct.Struct.{within}
use denote.Struct.Owning.{shape}
use Rattle.std.proofs.alloc.Calls.{Al}
use Rattle.std.proofs.cell.Inside.{Good}
use Rattle.std.specs.Box.Ownership.{box_owns}
use Rattle.std.specs.contracts.alloc.Global as global
use Rattle.std.proofs.alloc.Global.TheLaws as global_laws
use Rattle.std.specs.contracts.impls.GlobalAllocator.TheImpl.{ghosts}
use Rattle.cg_line_machine.specs.contracts.teller.Teller as teller
use Rattle.cg_capi.proofs.Values.{Loose}
use Rattle.cg_capi.specs.Owns.{held_owns, may_free}
use Rattle.cg_capi.specs.contracts.held.Held as held

abbrev pub R : RattleType
R = teller.the_row

abbrev pub Z : RattleType
Z = global.the_row

abbrev pub L : denote.Param.Laws.Laws Z
L = global_laws.the_row_laws

abbrev pub H : RattleType
H = held.the_row

abbrev pub N : RattleType
N = Loose R Z L ghosts

abbrev pub al : Al
al = record { row = Z; laws = L; g = ghosts; d = impl [] tnil dnil; drops = impl [] tnil dnil }

-- what an option that is not empty has
pub some_of : {X : Type 0} (o : Option X) → IsSome o → (x : X) × (o ≡ Some x)
some_of None there = absurd (false≢true there)
some_of (Some x) there = (x, refl)

-- the struct with this pointer
abbrev pub one_word : Ptr → Val
one_word p = vstruct (vcons (ptr_val p) vnil)

pub one_word_good : (p : Ptr) → Good (ty_struct [] (tcons ty_ptr tnil)) (one_word p)
one_word_good (block_ptr b o) = (tt, (tt, tt))
one_word_good null_ptr = (tt, (record { fits = lit< tt }, tt))

module _ {M : Type 1} {𝓤 : Ura M} {𝓛 : Logic 𝓤} {K : Type 0} {Γ : List (Item 𝓤)} {G : Goal 𝓤 𝓛.H} where
  -- a box that is held is a pointer into a block
  pub held_out : K → (d : H.Denot) (x : R.Denot) → d.teller ≡ Some x → (vs : List Val)
      → ((b o : ℕ) → d.at ≡ block_ptr b o → vs ≡ one_word (block_ptr b o) ∷ [] → Seq K 𝓛 (‵ (box_owns may_free R (block_ptr b o) x) ∷ Γ) G)
      → Seq K 𝓛 (‵ (H.own_val d vs) ∷ Γ) G
  held_out t d x is vs k =
      fsplit t $ fpick t (λ vss. fsplit t $ feq_l t (λ ev. fsplit t $ feq_l t (λ ep. drop t $
      rewrite t 0 (λ (o : Option R.Denot). ‵ (held_owns d.at o)) is refl $
      in_a_block t d.at (λ p. box_owns may_free R p x) (fst∗ 𝓤 (never 𝓤) (sem 𝓛 (may_free (bare (lone R.mir)) null_ptr))) (λ b o e. k b o e
      (ev ∙ (λ i. vstruct (of_list (ep i ++ [])) ∷ []) ∙ ap (λ p. one_word p ∷ []) e)))))

  -- and the other way round
  pub held_in : K → (b o : ℕ) (x : R.Denot)
      → Step K 𝓛 (‵ (H.own_val (record { at = block_ptr b o; teller = Some x }) (one_word (block_ptr b o) ∷ [])) ∷ Γ) G (‵ (box_owns may_free R (block_ptr b o) x) ∷ Γ) G
  held_in t b o x = step (λ s. let v : Val = one_word (block_ptr b o) in
      nothing t $ feq_i t (List Val) (vptr b o ∷ []) (vptr b o ∷ []) refl $ fjoin t $ feq_i t (List Val) (v ∷ []) (v ∷ []) refl $ fjoin t $
      fpack t (Valss (RawPtr ∷ [])) (within (shape held.the_type) (block_ptr b o, tt) (v ∷ [])) (vptr b o ∷ [], tt) $ fjoin t $ s)

  -- nothing is held
  pub held_none : K → Step K 𝓛 (‵ (H.own_val (record { at = null_ptr; teller = None }) (one_word null_ptr ∷ [])) ∷ Γ) G Γ G
  held_none t = step (λ s. let v : Val = one_word null_ptr in
      nothing t $ nothing t $ feq_i t (List Val) (ptr_val null_ptr ∷ []) (ptr_val null_ptr ∷ []) refl $ fjoin t $ feq_i t (List Val) (v ∷ []) (v ∷ []) refl $ fjoin t $
      fpack t (Valss (RawPtr ∷ [])) (within (shape held.the_type) (null_ptr, tt) (v ∷ [])) (ptr_val null_ptr ∷ [], tt) $ fjoin t $ s)
