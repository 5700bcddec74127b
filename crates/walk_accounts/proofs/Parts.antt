-- The READs of a file and the pages of a list, one after the other.
use Rattle.std.proofs.Common.{◌≡◌, ℕ, ◌+◌, ◌-◌, ◌==◌, ◌&&◌, ◌<◌, ◌≤◌, nat_eq, Bool, true, false, if◌then◌else◌, List, ◌∷◌, length, drop, get_or, sym, ap, ◌∙◌, arith, inl, inr, length-drop}
use Rattle.std.proofs.lemmas.Bool.{eq-eqb, ne_eqb, cases_eq}
use Rattle.std.proofs.lemmas.List.{at_drop_more, at_drop_all}
use Rattle.walk_accounts.specs.declared.exchange.Cursor.{Cursor}
use Rattle.walk_accounts.specs.declared.exchange.Exchange.{Exchange}
use Rattle.walk_accounts.specs.declared.exchange.Page.{Page}
use Rattle.walk_accounts.specs.Exchanges.{bytes_in, is_at_end, page_of}
use Rattle.walk_accounts.specs.Accounts.{is_piece, is_reading, is_listing, behind_page}

last_count : (a n : ℕ) → n ≤ a → nat_eq (a - n) 0 ≡ nat_eq n a
last_count a n le =
    elim (cases_eq n a) [ inl same ↦ eq-eqb (a - n) 0 (omega (arith, same)) ∙ sym (eq-eqb n a same) | inr other ↦ ne_eqb (a - n) 0 (λ zero. other (omega (arith, zero, le))) ∙ sym (ne_eqb n a other) ]

-- what is behind item i of a list is nothing, as what is counted says
pub is_last : {X : Type 0} (xs : List X) (i : ℕ) → i < length xs → nat_eq (length (drop (i + 1) xs)) 0 ≡ nat_eq (i + 1) (length xs)
is_last xs i lt = ap (λ n. nat_eq n 0) (length-drop (i + 1) xs) ∙ last_count (length xs) (i + 1) (omega (arith, lt))

reading_at : (file : List ℕ) (size offset i : ℕ) (part : List Exchange) (e d : Exchange) → i < length part → e ≡ get_or part i d
    → is_reading file size offset (drop i part)
    ≡ (is_piece file offset e && (if is_at_end e.reply then (offset + length (bytes_in e.reply) == size) && (length (drop (i + 1) part) == 0) else is_reading file size (offset + length (bytes_in e.reply)) (drop (i + 1) part)))
unfolding is_reading
reading_at file size offset i part e d lt is =
    at_drop_more (is_reading file size offset) part i d lt ∙ ap (λ x. is_reading file size offset (x ∷ drop (i + 1) part)) (sym is)

-- an exchange that is no piece
pub reading_wrong : (file : List ℕ) (size offset i : ℕ) (part : List Exchange) (e d : Exchange) → i < length part → e ≡ get_or part i d
    → is_piece file offset e ≡ false → is_reading file size offset (drop i part) ≡ false
reading_wrong file size offset i part e d lt is wrong =
    reading_at file size offset i part e d lt is
    ∙ ap (λ b. b && (if is_at_end e.reply then (offset + length (bytes_in e.reply) == size) && (length (drop (i + 1) part) == 0) else is_reading file size (offset + length (bytes_in e.reply)) (drop (i + 1) part))) wrong

reading_ends : (file : List ℕ) (size offset i : ℕ) (part : List Exchange) (e d : Exchange) (ends : Bool) → i < length part → e ≡ get_or part i d
    → is_piece file offset e ≡ true → is_at_end e.reply ≡ ends
    → is_reading file size offset (drop i part)
    ≡ (if ends then (offset + length (bytes_in e.reply) == size) && (length (drop (i + 1) part) == 0) else is_reading file size (offset + length (bytes_in e.reply)) (drop (i + 1) part))
reading_ends file size offset i part e d ends lt is piece at_end =
    reading_at file size offset i part e d lt is
    ∙ ap (λ b. b && (if is_at_end e.reply then (offset + length (bytes_in e.reply) == size) && (length (drop (i + 1) part) == 0) else is_reading file size (offset + length (bytes_in e.reply)) (drop (i + 1) part))) piece
    ∙ ap (λ b. if b then (offset + length (bytes_in e.reply) == size) && (length (drop (i + 1) part) == 0) else is_reading file size (offset + length (bytes_in e.reply)) (drop (i + 1) part)) at_end

-- the piece that reaches the end
pub reading_last : (file : List ℕ) (size offset i : ℕ) (part : List Exchange) (e d : Exchange) (bytes : List ℕ) → i < length part
    → e ≡ get_or part i d → is_piece file offset e ≡ true → is_at_end e.reply ≡ true → bytes ≡ bytes_in e.reply
    → is_reading file size offset (drop i part) ≡ (nat_eq (offset + length bytes) size && nat_eq (i + 1) (length part))
reading_last file size offset i part e d bytes lt is piece ends given =
    reading_ends file size offset i part e d true lt is piece ends
    ∙ ap (λ b. nat_eq (offset + length (bytes_in e.reply)) size && b) (is_last part i lt)
    ∙ ap (λ bs. nat_eq (offset + length bs) size && nat_eq (i + 1) (length part)) (sym given)

-- a piece ahead of others
pub reading_more : (file : List ℕ) (size offset i : ℕ) (part : List Exchange) (e d : Exchange) (bytes : List ℕ) → i < length part
    → e ≡ get_or part i d → is_piece file offset e ≡ true → is_at_end e.reply ≡ false → bytes ≡ bytes_in e.reply
    → is_reading file size offset (drop i part) ≡ is_reading file size (offset + length bytes) (drop (i + 1) part)
reading_more file size offset i part e d bytes lt is piece on given =
    reading_ends file size offset i part e d false lt is piece on
    ∙ ap (λ bs. is_reading file size (offset + length bs) (drop (i + 1) part)) (sym given)

pub reading_past : (file : List ℕ) (size offset i : ℕ) (part : List Exchange) → length part ≤ i → is_reading file size offset (drop i part) ≡ false
unfolding is_reading
reading_past file size offset i part past = at_drop_all (is_reading file size offset) part i past

listing_at : (directory : List ℕ) (cursor : Cursor) (i : ℕ) (part : List Exchange) (e d : Exchange) → i < length part → e ≡ get_or part i d
    → is_listing directory cursor (drop i part)
    ≡ behind_page (page_of directory cursor e) (length (drop (i + 1) part) == 0) (λ next. is_listing directory next (drop (i + 1) part))
unfolding is_listing
listing_at directory cursor i part e d lt is =
    at_drop_more (is_listing directory cursor) part i d lt ∙ ap (λ x. is_listing directory cursor (x ∷ drop (i + 1) part)) (sym is)

-- what an exchange is to the list
pub listing_page : (directory : List ℕ) (cursor : Cursor) (i : ℕ) (part : List Exchange) (e d : Exchange) (page : Page) → i < length part
    → e ≡ get_or part i d → page_of directory cursor e ≡ page
    → is_listing directory cursor (drop i part)
    ≡ behind_page page (nat_eq (i + 1) (length part)) (λ next. is_listing directory next (drop (i + 1) part))
listing_page directory cursor i part e d page lt is so =
    listing_at directory cursor i part e d lt is
    ∙ ap (λ p. behind_page p (length (drop (i + 1) part) == 0) (λ next. is_listing directory next (drop (i + 1) part))) so
    ∙ ap (λ b. behind_page page b (λ next. is_listing directory next (drop (i + 1) part))) (is_last part i lt)

pub listing_past : (directory : List ℕ) (cursor : Cursor) (i : ℕ) (part : List Exchange) → length part ≤ i → is_listing directory cursor (drop i part) ≡ false
unfolding is_listing
listing_past directory cursor i part past = at_drop_all (is_listing directory cursor) part i past
