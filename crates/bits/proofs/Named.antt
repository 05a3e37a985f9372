-- A fact of several parts, as the record that the named clauses of a contract make.

pub as-store_after-command_after : {A B : Type 0} → A × B → record { store_after : A; command_after : B }
as-store_after-command_after f = record { store_after = f.0; command_after = f.1 }

pub as-value-upper_bound-out_after : {A B C : Type 0} → A × (B × C) → record { value : A; upper_bound : B; out_after : C }
as-value-upper_bound-out_after f = record { value = f.0; upper_bound = f.1.0; out_after = f.1.1 }

pub as-result_value-screen_after : {A B : Type 0} → A × B → record { result_value : A; screen_after : B }
as-result_value-screen_after f = record { result_value = f.0; screen_after = f.1 }

pub as-result_value-block_after : {A B : Type 0} → A × B → record { result_value : A; block_after : B }
as-result_value-block_after f = record { result_value = f.0; block_after = f.1 }

pub as-result_value-border_palettes_after : {A B : Type 0} → A × B → record { result_value : A; border_palettes_after : B }
as-result_value-border_palettes_after f = record { result_value = f.0; border_palettes_after = f.1 }

pub as-result_value-block_after-command_after : {A B C : Type 0} → A × (B × C) → record { result_value : A; block_after : B; command_after : C }
as-result_value-block_after-command_after f = record { result_value = f.0; block_after = f.1.0; command_after = f.1.1 }

pub as-value-block_after : {A B : Type 0} → A × B → record { value : A; block_after : B }
as-value-block_after f = record { value = f.0; block_after = f.1 }

pub as-result_value-out_after : {A B : Type 0} → A × B → record { result_value : A; out_after : B }
as-result_value-out_after f = record { result_value = f.0; out_after = f.1 }

pub as-result_value-bytes_after : {A B : Type 0} → A × B → record { result_value : A; bytes_after : B }
as-result_value-bytes_after f = record { result_value = f.0; bytes_after = f.1 }

pub as-value-line_after : {A B : Type 0} → A × B → record { value : A; line_after : B }
as-value-line_after f = record { value = f.0; line_after = f.1 }

pub as-value-out_after : {A B : Type 0} → A × B → record { value : A; out_after : B }
as-value-out_after f = record { value = f.0; out_after = f.1 }

pub as-value-block_after-bytes_after : {A B C : Type 0} → A × (B × C) → record { value : A; block_after : B; bytes_after : C }
as-value-block_after-bytes_after f = record { value = f.0; block_after = f.1.0; bytes_after = f.1.1 }

pub as-value-block_after-command_after : {A B C : Type 0} → A × (B × C) → record { value : A; block_after : B; command_after : C }
as-value-block_after-command_after f = record { value = f.0; block_after = f.1.0; command_after = f.1.1 }

pub as-value-block_after-line_after-bytes_after-command_after : {A B C D E : Type 0} → A × (B × (C × (D × E))) → record { value : A; block_after : B; line_after : C; bytes_after : D; command_after : E }
as-value-block_after-line_after-bytes_after-command_after f = record { value = f.0; block_after = f.1.0; line_after = f.1.1.0; bytes_after = f.1.1.1.0; command_after = f.1.1.1.1 }
