-- The tokens before the one at which the reading of a text is stuck are the beginning of those of a tree.
use Rattle.std.proofs.Common.{◌≡◌, ℕ, ◌+◌, ◌-◌, [], ◌∷◌, ◌++◌, length, take, Ok, Err, refl, sym, ◌∙◌, ap, arith, append-nil, length-append, inl, inr, ◌⊎◌}
use Rattle.std.proofs.Math.Seq.{take-append_seam}
use Rattle.sq_grammar.specs.Reading.{Tokens, Outcome, Parser, and_then, end_of, whole}
use Rattle.sq_grammar.proofs.Sound.Spells.{Sound}
use Rattle.sq_run.proofs.Tokens.Ahead.{err_is}
use Rattle.sq_run.proofs.Tokens.Viable.{Filled, Inside, Starts, Viable}
use Rattle.sq_run.proofs.Tokens.ModuleViable.{End}

-- the tokens of a tree begin with these
pub record BeginsTree {T : Type 0} (tokens_of : T → Tokens) (ts : Tokens) : Type 0 where
  pub tree : T
  pub others : Tokens
  pub is : tokens_of tree ≡ ts ++ others

-- these tokens up to where `n` are left, and more, are read as a whole
pub record Cut {T : Type 0} (q : Parser T) (ts : Tokens) (n : ℕ) : Type 0 where
  pub before : Tokens
  pub after : Tokens
  pub text_is : ts ≡ before ++ after
  pub left : n ≡ length after
  pub more : Tokens
  pub value : T
  pub reads : q (before ++ more) ≡ Ok (value, [])

pub cut_begins : {T : Type 0} (q : Parser T) (tokens_of : T → Tokens) (depth_of : T → ℕ) (left : ℕ) → Sound q tokens_of depth_of left → (ts : Tokens) (n : ℕ) → Cut q ts n → BeginsTree tokens_of (take (length ts - n) ts)
cut_begins q tokens_of depth_of left sound ts n c =
    let index : length ts - n ≡ length c.before = omega (arith, c.left, ap length c.text_is ∙ length-append c.before c.after) in
    record {
      tree = c.value;
      others = c.more;
      is = sym (append-nil (tokens_of c.value)) ∙ sym (sound.spells (c.before ++ c.more) c.value [] c.reads).text_is
          ∙ ap (λ us. us ++ c.more) (sym (ap (λ m. take m ts) index ∙ ap (take (length c.before)) c.text_is ∙ take-append_seam c.before c.after));
    }

-- nothing is left at the end, or it is stuck at what is left
pub at_end : {T : Type 0} (x : T) (rest : Tokens) (n : ℕ) → end_of x rest ≡ Err n → n ≡ length rest
at_end x [] n e = cc
at_end {T = T} x (t ∷ rest) n e = omega (arith, err_is T (length rest + 1) n e)

module _ {T : Type 0} {p q : Parser T} (h : Viable p q End) (k : Starts q End) where
  filled_cut : (ts before after : Tokens) (n : ℕ) → ts ≡ before ++ after → n ≡ length after → Filled q End before → Cut q ts n
  filled_cut ts before after n is left f = record { before = before; after = after; text_is = is; left = left; more = f.more; value = f.value; reads = ap (λ us. q (before ++ us)) (sym (append-nil f.more)) ∙ f.reads [] refl }

  whole_cut : (ts : Tokens) (n : ℕ) → whole p ts ≡ Err n → Cut q ts n
  whole_cut ts n e = by (p ts) refl e
    where
      of_stop : (n ≡ length ts) ⊎ Inside q End ts n → Cut q ts n
      of_stop (inl i) = filled_cut ts [] ts n refl i k
      of_stop (inr j) = filled_cut ts j.before j.after n j.text_is j.left j.filled

      by : (r : Outcome T) → p ts ≡ r → and_then r end_of ≡ Err n → Cut q ts n
      by (Err m) is i = of_stop (h.stops ts n (is ∙ ap Err (err_is T m n i)))
      by (Ok r) is i =
          let j = h.reads ts r.0 r.1 is in
          record { before = j.before; after = r.1; text_is = j.text_is; left = at_end r.0 r.1 n i; more = []; value = r.0; reads = j.keeps [] (inl refl) }

  pub begins_tree : (tokens_of : T → Tokens) (depth_of : T → ℕ) (left : ℕ) → Sound q tokens_of depth_of left → (ts : Tokens) (n : ℕ) → whole p ts ≡ Err n → BeginsTree tokens_of (take (length ts - n) ts)
  begins_tree tokens_of depth_of left sound ts n e = cut_begins q tokens_of depth_of left sound ts n (whole_cut ts n e)
