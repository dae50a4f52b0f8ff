-- Lines that a watch told, one look after another.
use Rattle.std.proofs.Common.{Bool, true, false, ◌≡◌, ◌≢◌, ◌+◌, ◌<◌, ◌≤◌, ℕ, suc, length, get_or, set, take, drop, arith, List, [], ◌∷◌, ◌++◌, inl, inr, refl, sym, ap, subst, ◌∙◌, append-nil, append_assoc}
use Rattle.std.proofs.lemmas.Bool.{cases_order}
use Rattle.std.proofs.lemmas.List.{get_or-set_other, get_or-set_same, get_or_default}
use Rattle.std.proofs.Math.Seq.{drop-length, take-length}
use Rattle.std.specs.Prelude.{Option, Some, None, Result, Ok, Err, is_ok}
use Rattle.std.specs.Bool.{OnFalse, OnTrue}
use Rattle.std.specs.Io.KnownBytes.{Appends}
use Rattle.std.specs.List.{AllZip}
use Rattle.cg_name.specs.Path.{Path}
use Rattle.cg_name.specs.declared.file_name.FileName.{FileName}
use Rattle.cg_lines.specs.Device.{AppendsFront, WritesWhole}
use Rattle.cg_lines.proofs.DeviceLemmas.{Appends-append, AppendsFront-whole, AppendsTo-front}
use Rattle.cg_model.specs.History.{Answer, Gave, Refused}
use Rattle.cg_model.specs.System.{Text}
use Rattle.cg_name.specs.declared.refusal.Refusal.{Refusal}
use Rattle.cg_name.specs.declared.refusal.Refusal.TheVariants.{Full, Memory}
use Rattle.cg_view.specs.Operations.{commits_in, StartsWith}
use Rattle.cg_view.specs.Views.{newcomer, IsFileOf, IsRefusalOf}
use Rattle.cg_view.specs.declared.rule.View.{View}
use Rattle.cg_script.specs.Answer.{answer_text}
use Rattle.cg_watch.specs.Subscribed.{seen_through, Follows, IsSubscribed}
use Rattle.cg_watch.specs.Watches.{lines_text, watch_line, HasTold, HasToldSince, HasToldWhole, IsLater, Sees, Tells, TellsFront, TellsOf, TellsWhole}
use Rattle.cg_watch.specs.declared.watch.Watch.{Watch}

nothing_appended : (known : Option (List ℕ)) → Appends known known []
nothing_appended None = tt
nothing_appended (Some xs) = sym (append-nil xs)

-- ---- what was seen

pub still : (v : View) → IsLater v v
still v = record { opening = ([], sym (append-nil v.opening)); seen = ([], sym (append-nil v.seen)) }

longer : {X : Type 0} (a b c : List X) → StartsWith b a → StartsWith c b → StartsWith c a
longer a b c h k = (h.0 ++ k.0, k.1 ∙ ap (λ l. l ++ k.0) h.1 ∙ append_assoc a h.0 k.0)

later_still : (u v w : View) → IsLater v u → IsLater w v → IsLater w u
later_still u v w h k = record {
  opening = longer u.opening v.opening w.opening h.opening k.opening;
  seen = longer u.seen v.seen w.seen h.seen k.seen;
}

-- lines of what was seen later
tells_earlier : (p : Path) (f : FileName) (u v w : View) (lines : List (List ℕ)) → IsLater v u → Tells p f v lines w → Tells p f u lines w
tells_earlier p f u v w [] h k = later_still u v w h k
tells_earlier p f u v w (line ∷ lines) h k = (k.0, later_still u v k.0 h k.1, k.2, k.3)

tells_append : (p : Path) (f : FileName) (u v w : View) (xs ys : List (List ℕ)) → Tells p f u xs v → Tells p f v ys w → Tells p f u (xs ++ ys) w
tells_append p f u v w [] ys h k = tells_earlier p f u v w ys h k
tells_append p f u v w (x ∷ xs) ys h k = (h.0, h.1, h.2, tells_append p f h.0 v w xs ys h.3 k)

texts_append : (xs ys : List (List ℕ)) → lines_text (xs ++ ys) ≡ lines_text xs ++ lines_text ys
texts_append [] ys = refl
texts_append (x ∷ xs) ys = ap (λ l. x ++ l) (texts_append xs ys) ∙ sym (append_assoc x (lines_text xs) (lines_text ys))

-- what a Viewer saw of a file: its text
pub sees_text : (v : View) (p : Path) (f : FileName) (text : List ℕ) → IsFileOf v p f (Ok text) → Sees v p f (Gave (Text text))
sees_text v p f text h = record { found = Ok text; seen = h; answer_is = refl }

-- or why there is none
pub sees_refusal : (v : View) (p : Path) (f : FileName) (e : Refusal) → IsRefusalOf v p f e → e ≢ Memory → e ≢ Full → Sees v p f (Refused e)
sees_refusal v p f e h memory full = record { found = Err e; seen = h.why memory full; answer_is = refl }

-- ---- lines

-- nothing is told
told_nothing : (p : Path) (f : FileName) (u v : View) (known : Option (List ℕ)) → IsLater v u → TellsWhole p f u v known known
told_nothing p f u v known later = record { lines = []; each = later; written = nothing_appended known }

-- one line is told
told_one : (p : Path) (f : FileName) (v : View) (old new : Option (List ℕ)) (line : List ℕ) → TellsOf v p f line → Appends old new line → TellsWhole p f v v old new
told_one p f v old new line of written =
    record { lines = line ∷ []; each = (v, still v, of, still v); written = subst (λ l. Appends old new l) (sym (append-nil line)) written }

-- the front of one is
told_front : (p : Path) (f : FileName) (v : View) (old new : Option (List ℕ)) (line : List ℕ) → TellsOf v p f line → AppendsFront old new line → TellsFront p f v old new
told_front p f v old new line of written =
    record { lines = line ∷ []; after = v; each = (v, still v, of, still v); written = subst (λ l. AppendsFront old new l) (sym (append-nil line)) written }

-- all of them is their front
front_of_whole : (p : Path) (f : FileName) (u v : View) (old new : Option (List ℕ)) → TellsWhole p f u v old new → TellsFront p f u old new
front_of_whole p f u v old new h =
    record { lines = h.lines; after = v; each = h.each; written = AppendsFront-whole old new (lines_text h.lines) h.written }

-- whole lines, and others behind them
whole_then_whole : (p : Path) (f : FileName) (u v w : View) (a b c : Option (List ℕ)) → TellsWhole p f u v a b → TellsWhole p f v w b c → TellsWhole p f u w a c
whole_then_whole p f u v w a b c h k = record {
  lines = h.lines ++ k.lines;
  each = tells_append p f u v w h.lines k.lines h.each k.each;
  written = subst (λ l. Appends a c l) (sym (texts_append h.lines k.lines)) (Appends-append a b c (lines_text h.lines) (lines_text k.lines) h.written k.written);
}

whole_then_front : (p : Path) (f : FileName) (u v : View) (a b c : Option (List ℕ)) → TellsWhole p f u v a b → TellsFront p f v b c → TellsFront p f u a c
whole_then_front p f u v a b c h k =
    let first = lines_text h.lines in
    let second = lines_text k.lines in
    record {
      lines = h.lines ++ k.lines;
      after = k.after;
      each = tells_append p f u v k.after h.lines k.lines h.each k.each;
      written = subst (λ l. AppendsFront a c l) (sym (texts_append h.lines k.lines)) (AppendsTo-front a b c (first ++ second) second (first, refl, h.written) k.written);
    }

-- ---- of watches

-- only more was seen
pub same_watch : {S : Type 0} (taken : S → Option (List ℕ)) (u v : View) (w : Watch S) → IsLater v u → HasToldWhole taken u v w w
same_watch taken u v w later = record { path = refl; file = refl; told = told_nothing w.path w.file u v (taken w.sink) later }

pub watch_front : {S : Type 0} (taken : S → Option (List ℕ)) (u v : View) (a b : Watch S) → HasToldWhole taken u v a b → HasToldSince taken u a b
watch_front taken u v a b h = record { path = h.path; file = h.file; told = front_of_whole a.path a.file u v (taken a.sink) (taken b.sink) h.told }

pub watch_whole : {S : Type 0} (taken : S → Option (List ℕ)) (u v w : View) (a b c : Watch S) → HasToldWhole taken u v a b → HasToldWhole taken v w b c → HasToldWhole taken u w a c
watch_whole taken u v w a b c h k = record {
  path = k.path ∙ h.path;
  file = k.file ∙ h.file;
  told = whole_then_whole a.path a.file u v w (taken a.sink) (taken b.sink) (taken c.sink) h.told (
      subst (λ p. TellsWhole p a.file v w (taken b.sink) (taken c.sink)) h.path (subst (λ f. TellsWhole b.path f v w (taken b.sink) (taken c.sink)) h.file k.told)
      );
}

pub watch_then_front : {S : Type 0} (taken : S → Option (List ℕ)) (u v : View) (a b c : Watch S) → HasToldWhole taken u v a b → HasToldSince taken v b c → HasToldSince taken u a c
watch_then_front taken u v a b c h k = record {
  path = k.path ∙ h.path;
  file = k.file ∙ h.file;
  told = whole_then_front a.path a.file u v (taken a.sink) (taken b.sink) (taken c.sink) h.told (
      subst (λ p. TellsFront p a.file v (taken b.sink) (taken c.sink)) h.path (subst (λ f. TellsFront b.path f v (taken b.sink) (taken c.sink)) h.file k.told)
      );
}

-- who had seen less before told no less
pub whole_since : {S : Type 0} (taken : S → Option (List ℕ)) (u v w : View) (a b : Watch S) → IsLater v u → HasToldWhole taken v w a b → HasToldWhole taken u w a b
whole_since taken u v w a b later h = record {
  path = h.path;
  file = h.file;
  told = record { lines = h.told.lines; each = tells_earlier a.path a.file u v w h.told.lines later h.told.each; written = h.told.written };
}

pub front_since : {S : Type 0} (taken : S → Option (List ℕ)) (u v : View) (a b : Watch S) → IsLater v u → HasToldSince taken v a b → HasToldSince taken u a b
front_since taken u v a b later h = record {
  path = h.path;
  file = h.file;
  told = record { lines = h.told.lines; after = h.told.after; each = tells_earlier a.path a.file u v h.told.after h.told.lines later h.told.each; written = h.told.written };
}

pub on_true : {P Q : Type 0} (b : Bool) → (P → Q) → OnTrue b P → OnTrue b Q
on_true true f h = f h
on_true false f h = tt

pub on_false : {P Q : Type 0} (b : Bool) → (P → Q) → OnFalse b P → OnFalse b Q
on_false true f h = tt
on_false false f h = f h

-- a watch that was subscribed, and followed then
pub subscribed_and_followed : {S : Type 0} (taken : S → Option (List ℕ)) (a b c : Watch S) → IsSubscribed taken a b → Follows taken b c → HasTold taken a c
subscribed_and_followed taken a b c (inl h) k = watch_then_front taken newcomer (seen_through b.subscription) a b c h k.tells
subscribed_and_followed taken a b c (inr h) k = record {
  path = k.tells.path ∙ h.0.path;
  file = k.tells.file ∙ h.0.file;
  told = subst (λ s. TellsFront a.path a.file newcomer (taken a.sink) (taken s)) (sym (k.unsubscribed h.1)) h.0.told;
}

-- what holds by two lists, place by place, and by the second and a third
pub zip_through : {A B C : Type 0} (P : A → B → Type 0) (Q : B → C → Type 0) (R : A → C → Type 0)
    → ((a : A) (b : B) (c : C) → P a b → Q b c → R a c) → (xs : List A) (ys : List B) (zs : List C) → AllZip P xs ys → AllZip Q ys zs → AllZip R xs zs
zip_through P Q R f [] [] [] h k = tt
zip_through P Q R f [] [] (z ∷ zs) h k = absurd k
zip_through P Q R f [] (y ∷ ys) zs h k = absurd h
zip_through P Q R f (x ∷ xs) [] zs h k = absurd h
zip_through P Q R f (x ∷ xs) (y ∷ ys) [] h k = absurd k
zip_through P Q R f (x ∷ xs) (y ∷ ys) (z ∷ zs) h k = (f x y z h.0 k.0, zip_through P Q R f xs ys zs h.1 k.1)

-- what holds at each place of two lists that are as long holds of them
pub zip_at : {X : Type 0} (R : X → X → Type 0) (xs ys : List X) → length ys ≡ length xs
    → ((i : ℕ) (d : X) → i < length xs → R (get_or xs i d) (get_or ys i d)) → AllZip R xs ys
zip_at R [] [] e h = tt
zip_at R [] (y ∷ ys) e h = absurd (omega (arith, e))
zip_at R (x ∷ xs) [] e h = absurd (omega (arith, e))
zip_at R (x ∷ xs) (y ∷ ys) e h = (h 0 x (omega arith), zip_at R xs ys (omega (arith, e)) (λ i d k. h (suc i) d (omega (arith, k))))

-- what holds at each place below i, and of what is put there, holds at each place up to i
pub zip_more : {X : Type 0} (R : X → X → Type 0) (xs ys : List X) (i : ℕ) (d y : X) → i < length ys
    → ((k : ℕ) (e : X) → k < i → R (get_or xs k e) (get_or ys k e)) → ((k : ℕ) (e : X) → i ≤ k → get_or ys k e ≡ get_or xs k e)
    → R (get_or ys i d) y → (k : ℕ) (e : X) → k < i + 1 → R (get_or xs k e) (get_or (set ys i y) k e)
zip_more R xs ys i d y inside below from here k e h = elim (cases_order k i) [
  | inl same ↦
      let there : get_or (set ys i y) k e ≡ y = ap (λ n. get_or (set ys i y) n e) same ∙ get_or-set_same ys i y e inside in
      let before : get_or ys i d ≡ get_or xs k e = get_or_default ys i d e inside ∙ from i e (omega arith) ∙ ap (λ n. get_or xs n e) (sym same) in
      subst (λ w. R (get_or xs k e) w) (sym there) (subst (λ v. R v y) before here)
  | inr (inl before) ↦
      subst (λ w. R (get_or xs k e) w) (sym (get_or-set_other ys i k y e (omega (arith, before)))) (below k e before)
  | inr (inr behind) ↦ absurd (omega (arith, behind, h))
]

-- what was put at i changes nothing behind it
pub same_behind : {X : Type 0} (xs ys : List X) (i : ℕ) (y : X) → ((k : ℕ) (e : X) → i ≤ k → get_or ys k e ≡ get_or xs k e)
    → (k : ℕ) (e : X) → i + 1 ≤ k → get_or (set ys i y) k e ≡ get_or xs k e
same_behind xs ys i y from k e h = get_or-set_other ys i k y e (omega (arith, h)) ∙ from k e (omega (arith, h))

-- what stands where all of a list was lent is what was left there
pub all_left : {X : Type 0} (old new : List X) (n : ℕ) → length new ≡ length old → n ≡ length old → take n (new ++ drop (length new) old) ≡ new
all_left old new n same is =
    let none : drop (length new) old ≡ [] = ap (λ k. drop k old) same ∙ drop-length old in
    let whole : n ≡ length new = is ∙ sym same in
    ap (λ l. take n (new ++ l)) none ∙ ap (λ l. take n l) (append-nil new) ∙ ap (λ k. take k new) whole ∙ take-length new

pub zip_same : {X : Type 0} (R : X → X → Type 0) → ((x : X) → R x x) → (xs : List X) → AllZip R xs xs
zip_same R f [] = tt
zip_same R f (x ∷ xs) = (f x, zip_same R f xs)

-- watches that tell nothing
pub untold : {S : Type 0} (taken : S → Option (List ℕ)) (ws : List (Watch S)) → AllZip (HasTold taken) ws ws
untold taken ws = zip_same (HasTold taken) (λ w. watch_front taken newcomer newcomer w w (same_watch taken newcomer newcomer w (still newcomer))) ws

-- a look's line, of which a write says how much was taken
module _ {S T E : Type 0} (taken : S → Option (List ℕ)) (v : View) (a b : Watch S) (answer : Answer) (line : List ℕ) where
  pub told_line_whole : (r : Result T E)
      → Sees v a.path a.file answer → b.path ≡ a.path → b.file ≡ a.file → line ≡ watch_line a.path a.file (commits_in v.seen) (answer_text answer)
      → WritesWhole (taken a.sink) (taken b.sink) r line → OnTrue (is_ok r) (HasToldWhole taken v v a b)
  told_line_whole (Ok x) sees path file is written = record {
    path = path;
    file = file;
    told = told_one a.path a.file v (taken a.sink) (taken b.sink) line (record { answer = answer; seen = sees; line_is = is }) written;
  }
  told_line_whole (Err e) sees path file is written = tt

  pub told_line_front : (r : Result T E)
      → Sees v a.path a.file answer → b.path ≡ a.path → b.file ≡ a.file → line ≡ watch_line a.path a.file (commits_in v.seen) (answer_text answer)
      → WritesWhole (taken a.sink) (taken b.sink) r line → OnFalse (is_ok r) (HasToldSince taken v a b)
  told_line_front (Ok x) sees path file is written = tt
  told_line_front (Err e) sees path file is written = record {
    path = path;
    file = file;
    told = told_front a.path a.file v (taken a.sink) (taken b.sink) line (record { answer = answer; seen = sees; line_is = is }) written;
  }
